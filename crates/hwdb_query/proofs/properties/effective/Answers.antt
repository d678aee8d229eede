use Rattle.std.proofs.Common.{◌≡◌, ◌∙◌, ap, sym, [], None, filter}
use Rattle.std.proofs.lemmas.Result.{IfOk-weaker}
use Rattle.hwdb_spec.specs.Answers.{is_wanted, effective_of, last_assignments}
use Rattle.hwdb_spec.specs.Tree.{members_under, answers}
use Rattle.hwdb_spec.specs.Folders.{all_assignments}
use Rattle.hwdb_query.proofs.ByKeyLemmas.{shows_none}
use Rattle.hwdb_query.proofs.CollectionLemmas.{last_at_end}
use Rattle.hwdb_query.proofs.KeyLemmas.{from_the_first}
use Rattle.hwdb_query.proofs.LastLemmas.{last_are_answers}
use Rattle.hwdb_query.proofs.properties.effective.Goals as goal

pub returns-clause-list : goal.returns-clause-list
unfolding answers
returns-clause-list c =
    let device = c.args.device.now in
    let tree = c.args.db.now in
    let shows = last_at_end c.new-last.result (filter (is_wanted device) (members_under [] tree)) c.descend.new.into (shows_none c.new-last.result.hits c.new-last.ensures)
    (rw c.root-root.ensures.root at c.in_ok-descend.ensures.collected) in
    IfOk-weaker c.pairs.result _ _ (λ list shown. shown (answers device tree) shows) c.pairs.ensures

pub returns-clause-headline : goal.returns-clause-headline
returns-clause-headline c =
    let device = c.args.device.now in
    let tree = c.args.db.now in
    IfOk-weaker c.pairs.result _ _
    (λ list shown etc usr files.
    let last : answers device tree ≡ last_assignments device None (all_assignments etc usr) =
    sym (from_the_first device tree) ∙ last_are_answers c.matches_is_tested.ensures device None tree (all_assignments etc usr) c.root-root.ensures.tree files in
    shown ∙ ap effective_of last)
    (returns-clause-list c)
