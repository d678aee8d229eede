use Rattle.std.proofs.Common.{◌∙◌, ap}
use Rattle.hwdb_query.specs.declared.answer.StoredAssignment.{StoredAssignment}
use Rattle.hwdb_databases.proofs.UnmetLemmas.{answer_taken, taken_none}
use Rattle.hwdb_databases.proofs.unmet.take_answers.Goals as goal

pub loop-answer-init : goal.loop-answer-init
loop-answer-init c = taken_none c.args.still.now

pub loop-answer-preserved : goal.loop-answer-preserved
loop-answer-preserved c =
    answer_taken c.args.found.now c.loop-answer.answer-index c.answer-item.result c.pattern_bytes.result.now c.args.still.now c.loop-answer.still _ c.loop-answer-test.true
    (c.pattern_bytes.ensures ∙ ap (λ (f : StoredAssignment). f.pattern.value.items) c.answer-item.is) c.remove.ensures.updates.0 c.loop-answer.invariant
