use Rattle.std.proofs.Common.{◌≡◌, map, take}
use Rattle.std.specs.Prelude.{string_bytes}
use Rattle.hwdb_check.specs.Internal.{texts}
use Rattle.hwdb_check.proofs.left.words_of.Given as goal

abbrev pub invariant-loop-word : goal.invariant-loop-word
invariant-loop-word l = texts l.all.items ≡ map string_bytes (take l.word-index l.words)
