use Rattle.std.proofs.Common.{length, ◌-◌, ◌≤◌, ◌<◌}
use Rattle.hwdb_reader.specs.Internal.Stars.{AreStars}
use Rattle.hwdb_reader.proofs.stars.long_stars.Given as goal

abbrev pub invariant-loop-at : goal.invariant-loop-at
invariant-loop-at l = record {
  within : l.at ≤ length l.bytes;
  step : 0 < l.step;
  order : l.found.from ≤ l.found.end;
  stars : AreStars l.bytes l.found.from l.found.end;
}

abbrev pub decreases-loop-at : goal.decreases-loop-at
decreases-loop-at l = length l.bytes - l.at
