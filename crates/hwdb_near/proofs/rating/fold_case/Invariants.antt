use Rattle.std.proofs.Common.{◌≡◌, take}
use Rattle.hwdb_spec_commands.specs.Near
use Rattle.hwdb_near.proofs.rating.fold_case.Given as goal

abbrev pub invariant-loop-byte : goal.invariant-loop-byte
invariant-loop-byte l = l.folded.items ≡ Near.folded (take l.byte-index l.text)
