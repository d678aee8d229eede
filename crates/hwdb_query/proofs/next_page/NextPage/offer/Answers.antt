use Rattle.std.proofs.Common.{ap, option_map, subst, sym}
use Rattle.std.proofs.lemmas.Result.{on_ok_weaker}
use Rattle.hwdb_reader.specs.Views.{entry_shows}
use Rattle.hwdb_query.specs.Internal.Collected.{PageCollects}
use Rattle.hwdb_query.specs.Lemmas.Parts.{shown_some}
use Rattle.hwdb_query.proofs.CollectionLemmas.{page_offered_none}
use Rattle.hwdb_query.proofs.next_page.NextPage.offer.Goals as goal

pub returns-in_default : goal.returns-in_default
returns-in_default c = page_offered_none _ c.args.pattern.now (entry_shows c.args.entry) (ap (λ o. option_map (λ k. k.now) o) c.in_default.is)

pub returns : goal.returns
returns c =
    let shown = shown_some c.args.pattern.now c.in-Some.key.now (entry_shows c.args.entry) (ap (λ o. option_map (λ k. k.now) o) c.in-Some.is) in
    on_ok_weaker c.offer_hit.result (λ taken. subst (λ xs. PageCollects c.args.self.now xs c.offer_hit.new.self) (sym shown) taken) c.offer_hit.ensures
