use Rattle.std.proofs.Common.{◌≡◌, ap, option_map}
use Rattle.hwdb_reader.specs.Views.{entry_shows}
use Rattle.hwdb_query.proofs.CollectionLemmas.{assignment_at}
use Rattle.hwdb_query.proofs.AllHitsLemmas.{all_offered_none, all_offered}
use Rattle.hwdb_query.proofs.all_hits.AllHits.offer.Goals as goal

pub returns-in_default : goal.returns-in_default
returns-in_default c = all_offered_none c.args.self.now c.args.pattern.now.value.items (entry_shows c.args.entry) (ap (λ o. option_map (λ k. k.now) o) c.in_default.is)

pub returns : goal.returns
returns c =
    let s = entry_shows c.args.entry in
    let pattern = c.args.pattern.now.value.items in
    let copy : c.in_ok-clone.field-0.value.items ≡ pattern = ap (λ v. v.items) c.in_ok-clone.ensures.cases in
    all_offered c.args.self.now _ pattern c.in-Some.key.now s _ _ (ap (λ o. option_map (λ k. k.now) o) c.in-Some.is)
    c.in_ok-insert.ensures.entries (ap (λ p. assignment_at p c.in-Some.key.now s) copy)
