use Rattle.std.proofs.Common.{◌∙◌, ap, map}
use Rattle.hwdb_query.specs.declared.answer.Explained.{Explained}
use Rattle.hwdb_databases.specs.Views.{assignment_of}
use Rattle.hwdb_databases.proofs.UnmetLemmas.{key_taken, taken_as, taken_none}
use Rattle.hwdb_databases.proofs.unmet.take_explained.Goals as goal

pub loop-explained-init : goal.loop-explained-init
loop-explained-init c = taken_none c.args.still.now

pub loop-explained-preserved : goal.loop-explained-preserved
loop-explained-preserved c =
    let its = ap (map assignment_of) (c.deref.ensures.value ∙ ap (λ (e : Explained). e.answers.items) c.explained-item.is) in
    key_taken c.args.list.now c.loop-explained.explained-index c.explained-item.result c.args.still.now c.loop-explained.still c.take_answers.new.still c.loop-explained-test.true
    (taken_as c.loop-explained.still c.take_answers.new.still _ _ its c.take_answers.ensures) c.loop-explained.invariant
