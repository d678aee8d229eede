use Rattle.std.proofs.Common.{◌∙◌, ap, map}
use Rattle.std.specs.Prelude.{option_map}
use Rattle.hwdb_check.specs.Checks.{source_of}
use Rattle.hwdb_check.proofs.FileLemmas.{named_refused}
use Rattle.hwdb_check.proofs.files.check_files.Goals as goal

pub returns-clause-errors : goal.returns-clause-errors
returns-clause-errors c =
    named_refused (option_map (λ t. t.now) c.args.telling.now.name) (map source_of c.args.files.now) _ c.check_named.result
    (ap (map source_of) c.deref.ensures.value ∙ c.in_ok-files.ensures) c.check_named.ensures.errors
