use Rattle.std.proofs.Common.{◌≡◌, ◌∙◌, ap, sym, refl, ℕ, ◌<◌, min, List, [], ◌∷◌, length, Option, Some, None, IfSome, arith}
use Rattle.hwdb_query.specs.declared.hit.Hit.{Hit}
use Rattle.hwdb_spec.specs.Assignment.{Assignment}
use Rattle.hwdb_query.specs.Views.{assignment_of_hit, Gives, Progress}
use Rattle.hwdb_query.proofs.cursors.Cursor.next.Goals as goal

no_more : (page n : ℕ) → 0 < page → 0 ≡ min page n → n ≡ 0
no_more page n big e = omega arith

empty_list : (l : List Assignment) → length l ≡ 0 → l ≡ []
empty_list [] h = refl
empty_list (x ∷ l) h = absurd (omega arith)

taken : (r : Option Hit) (old mid new : Progress) (page : ℕ) → mid.to_come ≡ old.to_come → 0 < page → mid.held ≡ min page (length old.to_come)
    → IfSome r (λ hit. mid.to_come ≡ assignment_of_hit hit ∷ new.to_come) → (r ≡ None → (new ≡ mid) × (mid.held ≡ 0)) → Gives old.to_come new.to_come r
taken (Some hit) old mid new page same big held some none = sym same ∙ some
taken None old mid new page same big held some none =
    let n = none refl in
    let size : length old.to_come ≡ 0 = no_more page (length old.to_come) big (sym n.1 ∙ held) in
    let gone : old.to_come ≡ [] = empty_list old.to_come size in
    (gone, ap (λ (p : Progress). p.to_come) n.0 ∙ same ∙ gone)

pub returns-clause-gives : goal.returns-clause-gives
returns-clause-gives c =
    let same : c.take.new.self ≡ c.args.self.now = (c.in_default.ensures.none refl).0 in
    taken c.take-2.result c.args.self.now c.fill_page.new.self c.take-2.new.self c.take.new.self.page
    (c.in_ok-fill_page.ensures.to_come ∙ ap (λ (p : Progress). p.to_come) same)
    c.has_ended.ensures.room
    (c.in_ok-fill_page.ensures.held ∙ ap (λ (p : Progress). min c.take.new.self.page (length p.to_come)) same)
    c.take-2.ensures.some c.take-2.ensures.none
