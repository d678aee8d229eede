use Rattle.std.proofs.Common.{length}
use Rattle.hwdb_ruleasks.proofs.answers.+ask_questions.Given as goal

abbrev pub decreases-ask_questions : goal.decreases-ask_questions
decreases-ask_questions l = length l.questions.now
