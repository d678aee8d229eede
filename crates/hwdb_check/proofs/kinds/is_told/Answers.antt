use Rattle.std.proofs.Common.{◌∙◌, ap, not, List, ℕ}
use Rattle.std.specs.List.{list_any}
use Rattle.hwdb_spec.specs.Folders.{same}
use Rattle.hwdb_spec_commands.specs.AllowedKinds.{names_in}
use Rattle.hwdb_spec_commands.specs.Kinds.{warning_name}
use Rattle.hwdb_check.specs.Internal.{texts}
use Rattle.hwdb_check.proofs.AllowedLemmas.{any_among}
use Rattle.hwdb_check.proofs.kinds.is_told.Goals as goal

pub returns : goal.returns
returns c =
    ap not
    (c.is_among.ensures
    ∙ ap (λ (n : List ℕ). list_any (λ text. list_any (same n) (names_in text)) (texts c.args.allowed.now)) (c.as_bytes.ensures.value ∙ c.warning_name.ensures)
    ∙ any_among (same (warning_name c.args.kind)) (texts c.args.allowed.now))
