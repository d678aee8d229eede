use Rattle.std.proofs.Common.{◌∙◌, ap, reverse, take, []}
use Rattle.hwdb_reader.specs.Views.{tree_of}
use Rattle.hwdb_spec.specs.Tree.{answers_after, members_under}
use Rattle.hwdb_query.specs.Internal.Hits.{after_position}
use Rattle.hwdb_query.specs.Views.{Page}
use Rattle.hwdb_query.specs.declared.next_page.NextPage.{NextPage}
use Rattle.hwdb_query.proofs.OrderLemmas.{page_is}
use Rattle.hwdb_query.proofs.CollectionLemmas.{page_at_end}
use Rattle.hwdb_query.proofs.refill.fill.Goals as goal

pub returns-clause-most : goal.returns-clause-most
returns-clause-most c =
    let a : NextPage = record { after = c.args.after; held = c.take.result } in
    let none = ap (λ (p : Page). p.hits) c.take.ensures.taken ∙ c.requires in
    let end = page_at_end a (members_under [] (tree_of c.args.root)) c.args.device.now c.descend.new.into none c.in_ok-entered.ensures.collected in
    ap (λ (p : Page). p.most) c.set.ensures ∙ ap (λ (p : Page). p.most) c.turn.ensures ∙ end.0 ∙ ap (λ (p : Page). p.most) c.take.ensures.taken

pub returns-clause-hits : goal.returns-clause-hits
returns-clause-hits c =
    let a : NextPage = record { after = c.args.after; held = c.take.result } in
    let tree = tree_of c.args.root in
    let none = ap (λ (p : Page). p.hits) c.take.ensures.taken ∙ c.requires in
    let end = page_at_end a (members_under [] tree) c.args.device.now c.descend.new.into none c.in_ok-entered.ensures.collected in
    ap (λ (p : Page). p.hits) c.set.ensures ∙ ap (λ (p : Page). p.hits) c.turn.ensures
    ∙ ap reverse (end.1 ∙ page_is c.take.result.most c.args.device.now (after_position c.args.after) tree)
    ∙ ap (λ (p : Page). reverse (take p.most (answers_after c.args.device.now (after_position c.args.after) tree))) c.take.ensures.taken
