use Rattle.std.proofs.Common.{◌≡◌, ◌∙◌, ap, subst, sym, take, Some, []}
use Rattle.hwdb_spec.specs.Tree.{answers_after, members_under}
use Rattle.hwdb_query.specs.Internal.Collected.{PageCollects}
use Rattle.hwdb_query.specs.Internal.Hits.{after_position}
use Rattle.hwdb_query.specs.Views.{Page, given_position}
use Rattle.hwdb_query.specs.declared.next_page.NextPage.{NextPage}
use Rattle.hwdb_query.proofs.OrderLemmas.{page_is}
use Rattle.hwdb_query.proofs.CollectionLemmas.{page_at_end}
use Rattle.hwdb_query.proofs.among.page_among.Goals as goal
use Rattle.hwdb_query.proofs.among.page_among.Goals.{in-None, in-Some}

pub returns : goal.returns
returns c device t found =
    let a : NextPage = record { after = c.match-after.after; held = c.new.result } in
    let b = c.take_page.new.page in
    let after : after_position c.match-after.after ≡ given_position c.args.after =
    elim c.match-after.branch [
      | in-None w ↦ ap after_position w.after-is ∙ sym (ap given_position w.in-None.is)
      | in-Some w ↦ ap after_position w.after-is ∙ ap Some w.parts.ensures ∙ sym (ap given_position w.in-Some.is)
    ] in
    let none = ap (λ (p : Page). p.hits) c.new.ensures in
    let most = ap (λ (p : Page). p.most) c.new.ensures in
    let end = page_at_end a (members_under [] t) device b none (subst (λ xs. PageCollects a xs b) found c.in_ok-take_page.ensures) in
    c.into_hits.ensures ∙ end.1 ∙ page_is c.new.result.most device (after_position c.match-after.after) t
    ∙ ap (λ m. take m (answers_after device (after_position c.match-after.after) t)) most
    ∙ ap (λ p. take c.args.most (answers_after device p t)) after
