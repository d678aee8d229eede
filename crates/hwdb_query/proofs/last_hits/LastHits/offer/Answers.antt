use Rattle.std.proofs.Common.{◌≡◌, ◌∙◌, ap, sym, refl, option_map, List, ℕ}
use Rattle.hwdb_reader.specs.Views.{entry_shows}
use Rattle.hwdb_spec.specs.Answers.{is_after}
use Rattle.hwdb_query.specs.Internal.Collected.{position_at}
use Rattle.hwdb_query.proofs.ByKeyLemmas.{left_there, put_there, inserted_at}
use Rattle.hwdb_query.proofs.CollectionLemmas.{assignment_at, last_offered_none, last_offered}
use Rattle.hwdb_query.proofs.last_hits.LastHits.offer.Goals as goal

pub returns-in_default : goal.returns-in_default
returns-in_default c = last_offered_none c.args.self.now c.args.pattern.now.value.items (entry_shows c.args.entry) (ap (λ o. option_map (λ k. k.now) o) c.in_default.is)

pub returns-in_ok-insert : goal.returns-in_ok-insert
returns-in_ok-insert c =
    let s = entry_shows c.args.entry in
    let pattern = c.args.pattern.now.value.items in
    let x = assignment_at pattern c.in-Some.key.now s in
    let m = c.args.self.now.hits in
    let seen : c.deref-2.result.now ≡ pattern = c.deref-2.ensures.value ∙ ap (λ v. v.items) c.deref.ensures in
    let late : is_after (position_at m c.in-Some.key.now) x.position ≡ _ =
    ap (λ p. is_after (position_at m c.in-Some.key.now) (record x.position { pattern = p })) (sym seen) ∙ sym c.is_last.ensures ∙ c.if-is_last.true in
    let copy : c.in_ok-clone.field-0.value.items ≡ pattern = ap (λ v. v.items) c.in_ok-clone.ensures.cases in
    let same = ap (λ (p : List ℕ). (record x.position { pattern = p }, x.value)) copy in
    last_offered _ _ pattern c.in-Some.key.now s (ap (λ o. option_map (λ k. k.now) o) c.in-Some.is)
    (λ hits up shows. put_there m c.insert.new.self hits x up shows late
    (λ q. inserted_at m c.insert.new.self x c.in-Some.key _ q refl same (c.in_ok-insert.ensures.updates.0 (record c.in-Some.key { now = q }))))

pub returns-else-is_last : goal.returns-else-is_last
returns-else-is_last c =
    let s = entry_shows c.args.entry in
    let pattern = c.args.pattern.now.value.items in
    let x = assignment_at pattern c.in-Some.key.now s in
    let m = c.args.self.now.hits in
    let seen : c.deref-2.result.now ≡ pattern = c.deref-2.ensures.value ∙ ap (λ v. v.items) c.deref.ensures in
    let early : is_after (position_at m c.in-Some.key.now) x.position ≡ _ =
    ap (λ p. is_after (position_at m c.in-Some.key.now) (record x.position { pattern = p })) (sym seen) ∙ sym c.is_last.ensures ∙ c.if-is_last.false in
    last_offered _ _ pattern c.in-Some.key.now s (ap (λ o. option_map (λ k. k.now) o) c.in-Some.is)
    (λ hits up shows. left_there m hits x up shows early)
