use Rattle.std.proofs.Common.{◌≡◌, ◌∙◌, ap, sym, subst, Some}
use Rattle.hwdb_spec.specs.Assignment.{Position}
use Rattle.hwdb_spec.specs.Tree.{answers_after}
use Rattle.hwdb_spec.specs.Folders.{all_assignments}
use Rattle.hwdb_spec.specs.Last.{AreLast}
use Rattle.hwdb_query.specs.Views.{Progress, next_position, given_position}
use Rattle.hwdb_query.proofs.InWordsLemmas.{last_assignments_are_last}
use Rattle.hwdb_query.proofs.LastLemmas.{last_are_answers}
use Rattle.hwdb_query.proofs.start.paged_cursor.Goals as goal
use Rattle.hwdb_query.proofs.start.paged_cursor.Goals.{in-None, in-Some+in_ok-copy-in-Some}

pub returns-clause-list : goal.returns-clause-list
returns-clause-list c = λ etc usr files.
    let device = c.args.device.now in
    let tree = c.args.db.now in
    let from : next_position c.match-after.after ≡ given_position c.args.after =
    elim c.match-after.branch [
      | in-None w ↦ ap next_position w.after-is ∙ sym (ap given_position w.in-None.is)
      | in-Some+in_ok-copy-in-Some w ↦ ap next_position w.after-is ∙ ap (λ (s : Position). Some s) w.in_ok-copy-in-Some.ensures ∙ sym (ap given_position w.in-Some.is)
    ] in
    ap (λ (p : Progress). p.to_come) c.start.ensures
    ∙ ap (λ t. answers_after device (next_position c.match-after.after) t) c.root-root.ensures.root
    ∙ ap (λ spot. answers_after device spot tree) from
    ∙ last_are_answers c.matches_is_tested.ensures device (given_position c.args.after) tree (all_assignments etc usr) c.root-root.ensures.tree files

pub returns-clause-headline : goal.returns-clause-headline
returns-clause-headline c = λ etc usr files.
    let device = c.args.device.now in
    let after = given_position c.args.after in
    subst (AreLast device after (all_assignments etc usr)) (sym (returns-clause-list c etc usr files))
    (last_assignments_are_last c.matches_is_tested.ensures device after (all_assignments etc usr))
