use Rattle.hwdb_test.proofs.trials.try_files.Goals as goal
use Rattle.hwdb_check.specs.Lemmas.Files.{file_refused}

pub returns-in_err-try_file-clause-errors : goal.returns-in_err-try_file-clause-errors
returns-in_err-try_file-clause-errors c =
    file_refused c.args.files.now c.loop-file.file-index _ c.in_err-try_file.field-0.0 _ c.loop-file-test.true c.from_residual.ensures.1 c.in_err-try_file.ensures.errors
