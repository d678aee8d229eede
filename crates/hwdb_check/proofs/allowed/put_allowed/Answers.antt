use Rattle.std.proofs.Common.{◌∙◌, sym, ap, ◌++◌}
use Rattle.hwdb_spec_commands.specs.AllowedKinds.{names_in}
use Rattle.hwdb_check.specs.Leaving.{all_names}
use Rattle.hwdb_check.proofs.AllowedLemmas.{none_named}
use Rattle.hwdb_check.proofs.allowed.put_allowed.Goals as goal

pub returns-else-not-is_empty : goal.returns-else-not-is_empty
returns-else-not-is_empty c =
    none_named (all_names c.args.allowed.now.items) c.allowed_text-own.result.now (sym c.is_empty.ensures ∙ c.if-not-is_empty.false)
    ∙ ap (λ t. all_names c.args.allowed.now.items ++ names_in t) c.allowed_text-own.ensures
