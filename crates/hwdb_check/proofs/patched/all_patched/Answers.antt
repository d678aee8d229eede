use Rattle.std.proofs.Common.{map}
use Rattle.std.specs.Prelude.{string_bytes}
use Rattle.hwdb_check.specs.Summed.{patched_of}
use Rattle.hwdb_check.specs.Lemmas.Files.{file_refused}
use Rattle.hwdb_check.proofs.HunkLemmas.{next_file}
use Rattle.hwdb_check.proofs.patched.all_patched.Goals as goal

pub loop-file-preserved : goal.loop-file-preserved
loop-file-preserved c =
    next_file c.args.telling.now.format (map string_bytes c.args.telling.now.allowed.now) c.args.files.now c.loop-file.file-index _ (patched_of c.loop-file.all) _ _ c.requires c.loop-file-test.true
    c.in_ok-all.ensures.patched c.loop-file.invariant

pub returns-in_err-all-clause-errors : goal.returns-in_err-all-clause-errors
returns-in_err-all-clause-errors c =
    file_refused c.args.files.now c.loop-file.file-index _ c.in_err-all.field-0.0 _ c.loop-file-test.true c.from_residual.ensures.1 c.in_err-all.ensures.errors
