use Rattle.std.proofs.Common.{◌≤◌, ◌-◌, length}
use Rattle.hwdb_reader.proofs.twins.Twins.is_in_some.Given as goal

abbrev pub invariant-halves : goal.invariant-halves
invariant-halves l = record {
  first : l.first ≤ l.end;
  end : l.end ≤ length l.self.stretches.items;
}

abbrev pub decreases-halves : goal.decreases-halves
decreases-halves l = l.end - l.first
