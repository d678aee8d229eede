use Rattle.std.proofs.Common.{map}
use Rattle.std.specs.Prelude.{string_bytes}
use Rattle.hwdb_check.proofs.FileLemmas.{found_step, tally_step}
use Rattle.hwdb_check.proofs.files.look_over_all.Goals as goal
use Rattle.hwdb_check.specs.Lemmas.Files.{file_refused}

pub loop-file-preserved : goal.loop-file-preserved
loop-file-preserved c = record {
  found = found_step c.args.telling.now.format (map string_bytes c.args.telling.now.allowed.now) c.args.files.now c.loop-file.file-index _ _ _ _ _ c.loop-file-test.true c.as_bytes.ensures.value c.in_ok-own.ensures.found c.in_ok-append.ensures.items
      c.loop-file.invariant.found;
  tally = tally_step c.args.files.now c.loop-file.file-index _ _ _ _ _ c.loop-file-test.true c.as_bytes.ensures.value c.in_ok-own.ensures.tally c.together-tally.ensures c.loop-file.invariant.tally;
}

pub returns-in_err-own-clause-errors : goal.returns-in_err-own-clause-errors
returns-in_err-own-clause-errors c =
    file_refused c.args.files.now c.loop-file.file-index _ c.in_err-own.field-0.0 _ c.loop-file-test.true c.from_residual.ensures.1 c.in_err-own.ensures.errors
