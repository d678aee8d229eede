use Rattle.std.proofs.Common.{◌≡◌, ◌∙◌, ap, sym, None}
use Rattle.std.proofs.lemmas.Result.{IfOk-weaker}
use Rattle.hwdb_spec.specs.Answers.{last_assignments}
use Rattle.hwdb_spec.specs.Explanations.{explained}
use Rattle.hwdb_spec.specs.Tree.{answers}
use Rattle.hwdb_spec.specs.Folders.{all_assignments}
use Rattle.hwdb_query.proofs.AllHitsLemmas.{all_in_order}
use Rattle.hwdb_query.proofs.KeyLemmas.{from_the_first}
use Rattle.hwdb_query.proofs.LastLemmas.{last_are_answers}
use Rattle.hwdb_query.proofs.explanations.explain.Goals as goal

pub returns-clause-list : goal.returns-clause-list
unfolding answers
returns-clause-list c =
    let device = c.args.device.now in
    let tree = c.args.db.now in
    let all = all_in_order c.new-all.result c.descend.new.into device tree c.root-root.ensures.tree c.new-all.ensures (rw c.root-root.ensures.root at c.in_ok-descend.ensures.collected) in
    IfOk-weaker c.explained.result _ _ (λ list is. is ∙ c.in_ok-by_key.ensures.listed ∙ ap explained all) c.explained.ensures

pub returns-clause-headline : goal.returns-clause-headline
returns-clause-headline c =
    let device = c.args.device.now in
    let tree = c.args.db.now in
    IfOk-weaker c.explained.result _ _
    (λ list shown etc usr files.
    let last : answers device tree ≡ last_assignments device None (all_assignments etc usr) =
    sym (from_the_first device tree) ∙ last_are_answers c.matches_is_tested.ensures device None tree (all_assignments etc usr) c.root-root.ensures.tree files in
    shown ∙ ap explained last)
    (returns-clause-list c)
