use Rattle.std.proofs.Common.{◌≡◌, map, take}
use Rattle.hwdb_spec_commands.specs.Baselines.{mark_of}
use Rattle.hwdb_spec_commands.specs.Patches.{at_number}
use Rattle.hwdb_check.specs.Found.{finds}
use Rattle.hwdb_check.proofs.sure.number_marks.Given as goal

abbrev pub invariant-loop-one : goal.invariant-loop-one
invariant-loop-one l = map (λ t. t.items) l.all.items ≡ map (λ f. mark_of (at_number f)) (finds (take l.one-index l.found))
