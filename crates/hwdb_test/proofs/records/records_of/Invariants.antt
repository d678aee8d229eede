use Rattle.std.proofs.Common.{length, ◌-◌, ◌+◌, ◌≡◌, ◌≤◌, drop}
use Rattle.hwdb_spec.specs.Lines.{clean, is, numbered, pieces}
use Rattle.hwdb_spec_commands.specs.Wanted.{records}
use Rattle.hwdb_test.specs.Internal.{read_with}
use Rattle.hwdb_test.proofs.records.records_of.Given as goal

abbrev pub invariant-loop-at : goal.invariant-loop-at
invariant-loop-at l = record {
  at_in : l.at ≤ length l.bytes + 1;
  near : l.number ≤ l.at + 1;
  found : read_with l.reading (clean (numbered l.number (pieces (is 10) (drop l.at l.bytes)))) ≡ records l.bytes;
}

abbrev pub decreases-loop-at : goal.decreases-loop-at
decreases-loop-at l = length l.bytes - l.at
