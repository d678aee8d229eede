use Rattle.std.proofs.Common.{◌≡◌, drop}
use Rattle.std.specs.List.{list_any}
use Rattle.hwdb_spec.specs.Folders.{same}
use Rattle.hwdb_spec_commands.specs.AllowedKinds.{names_in}
use Rattle.hwdb_check.specs.Internal.{texts}
use Rattle.hwdb_check.proofs.kinds.is_among.Given as goal

abbrev pub invariant-loop-text : goal.invariant-loop-text
invariant-loop-text l =
    list_any (λ text. list_any (same l.name) (names_in text)) (texts (drop l.text-index l.names)) ≡ list_any (λ text. list_any (same l.name) (names_in text)) (texts l.names)
