use Rattle.std.proofs.Common.{◌≡◌}
use Rattle.hwdb_spec_commands.specs.Mends.{start_of}
use Rattle.hwdb_check.proofs.mends.start_of.Given as goal

abbrev pub invariant-loop-at : goal.invariant-loop-at
invariant-loop-at l = start_of l.pattern l.at ≡ start_of l.pattern l.place

abbrev pub decreases-loop-at : goal.decreases-loop-at
decreases-loop-at l = l.at
