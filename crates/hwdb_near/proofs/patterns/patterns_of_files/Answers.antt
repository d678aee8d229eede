use Rattle.std.proofs.Common.{arith}
use Rattle.hwdb_near.proofs.FileLemmas.{files_step}
use Rattle.hwdb_near.proofs.patterns.patterns_of_files.Goals as goal

pub loop-file-preserved : goal.loop-file-preserved
loop-file-preserved c = record {
  place = omega (arith, c.loop-file.invariant.place);
  patterns = files_step c.args.files.now c.loop-file.file-index _ c.loop-file.place _ _ c.loop-file-test.true c.loop-file.invariant.place c.in_ok-push_patterns.ensures c.loop-file.invariant.patterns;
}
