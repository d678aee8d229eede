use Rattle.std.proofs.Common.{◌∙◌, ap, List, ℕ}
use Rattle.hwdb_spec_commands.specs.Kinds.{is_told}
use Rattle.hwdb_check.specs.Internal.{texts}
use Rattle.hwdb_check.specs.Leaving.{all_names}
use Rattle.hwdb_check.proofs.KeptLemmas.{kept_alike}
use Rattle.hwdb_check.proofs.allowed.record_kinds.Goals as goal

pub returns : goal.returns
returns c = λ kind.
    ap (λ (n : List (List ℕ)). is_told n kind) c.in_ok-kinds.ensures
    ∙ kept_alike (texts c.deref.result.now) kind
    ∙ ap (λ (n : List (List ℕ)). is_told n kind) (ap (λ o. all_names o) c.deref.ensures.value ∙ c.in_ok-own.ensures)
