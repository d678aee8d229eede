use Rattle.std.proofs.Common.{length}
use Rattle.hwdb_ruleasks.proofs.answers.+first_told.Given as goal

abbrev pub decreases-first_told : goal.decreases-first_told
decreases-first_told l = length l.questions.now
