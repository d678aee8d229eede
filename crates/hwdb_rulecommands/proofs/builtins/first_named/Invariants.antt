use Rattle.std.proofs.Common.{◌≡◌, drop, nat_eq}
use Rattle.std.specs.List.{find, starts_with}
use Rattle.hwdb_rulecommands.specs.Builtins
use Rattle.hwdb_rulecommands.proofs.builtins.first_named.Given as goal

abbrev pub invariant-loop-builtin : goal.invariant-loop-builtin
invariant-loop-builtin l =
    find (λ builtin. starts_with nat_eq (Builtins.name_of builtin) l.word) (drop l.builtin-index l.builtin-items) ≡ Builtins.first_named l.word
