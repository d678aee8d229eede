use Rattle.std.proofs.Common.{length, ◌-◌, ◌≤◌}
use Rattle.hwdb_reader.specs.Internal.Stars.{AreStars}
use Rattle.hwdb_reader.proofs.stars.stars_around.Given as goal

abbrev pub invariant-loop-from : goal.invariant-loop-from
invariant-loop-from l = record {
  before : l.from ≤ l.at;
  stars : AreStars l.bytes l.from l.at;
}

abbrev pub decreases-loop-from : goal.decreases-loop-from
decreases-loop-from l = l.from

abbrev pub invariant-loop-end : goal.invariant-loop-end
invariant-loop-end l = record {
  after : l.at ≤ l.end;
  order : l.from ≤ l.end;
  stars : AreStars l.bytes l.from l.end;
}

abbrev pub decreases-loop-end : goal.decreases-loop-end
decreases-loop-end l = length l.bytes - l.end
