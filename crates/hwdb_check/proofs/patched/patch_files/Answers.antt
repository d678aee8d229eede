use Rattle.std.proofs.Common.{◌∙◌, ap, map}
use Rattle.std.specs.Prelude.{option_map}
use Rattle.hwdb_check.specs.Checks.{source_of}
use Rattle.hwdb_check.proofs.FileLemmas.{named_refused}
use Rattle.hwdb_check.proofs.HunkLemmas.{err_of}
use Rattle.hwdb_check.proofs.patched.patch_files.Goals as goal

pub returns-in_err-patched-clause-errors : goal.returns-in_err-patched-clause-errors
returns-in_err-patched-clause-errors c =
    let all = map source_of c.deref.result.now in
    named_refused (option_map (λ t. t.now) c.args.telling.now.name) (map source_of c.args.files.now) all c.from_residual-in_err-patched.result (ap (map source_of) c.deref.ensures.value ∙ c.in_ok-files.ensures)
    (err_of all c.in_err-patched.field-0.0 c.from_residual-in_err-patched.result c.from_residual-in_err-patched.ensures.1 c.in_err-patched.ensures.errors)
