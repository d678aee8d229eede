use Rattle.std.proofs.Common.{add-one}
use Rattle.hwdb_answers.proofs.ExplanationLemmas.{behind_more}
use Rattle.hwdb_answers.proofs.explanation.push_all_overridden.Goals as goal

pub loop-answer-preserved : goal.loop-answer-preserved
loop-answer-preserved c =
    rw add-one (behind_more c.args.text.now.items c.loop-answer.text.items c.push_overridden.new.text.items c.args.answers.now c.loop-answer.answer-index c.answer-item.result
    c.loop-answer-test.true c.answer-item.is c.loop-answer.invariant c.in_ok-push_overridden.ensures)
