use Rattle.std.proofs.Common.{◌≡◌, ◌∙◌, ap, refl, not, eqb-true, ◌+◌, ◌-◌, ◌==◌, Bool, true, false, if◌then◌else◌, length, min, arith, inl, inr}
use Rattle.std.proofs.lemmas.Bool.{ne_eqb}
use Rattle.hwdb_query.specs.Views.{Progress, fills}
use Rattle.hwdb_query.proofs.FillLemmas.{fills_none, fills_now, held_fills_not}
use Rattle.hwdb_query.proofs.laws.after_each_next.Goals as goal

held_by : (p : Progress) (b : Bool) → fills p ≡ b → (if fills p then min p.page (length p.to_come) else p.held) - 1 ≡ (if b then min p.page (length p.to_come) else p.held) - 1
held_by p b e = ap (λ c. (if c then min p.page (length p.to_come) else p.held) - 1) e

ended_by : (p : Progress) (b : Bool) → fills p ≡ b → (if fills p then length p.to_come == 0 else p.ended) ≡ (if b then length p.to_come == 0 else p.ended)
ended_by p b e = ap (λ c. if c then length p.to_come == 0 else p.ended) e

entered_by : (p : Progress) (b : Bool) → fills p ≡ b → (if fills p then p.live else p.entered) ≡ (if b then p.live else p.entered)
entered_by p b e = ap (λ c. if c then p.live else p.entered) e

pub returns-clause-held : goal.returns-clause-held
returns-clause-held c = λ p some. ap (λ n. n + 1) (held_by p false (held_fills_not p some)) ∙ omega (arith, some)

pub returns-clause-filled : goal.returns-clause-filled
returns-clause-filled c = λ p none on. held_by p true (fills_now p none on)

pub returns-clause-open : goal.returns-clause-open
returns-clause-open c = λ p more on.
    elim (p.held == 0) as (λ b. (p.held == 0) ≡ b → (if fills p then length p.to_come == 0 else p.ended) ≡ false) [
      | true ↦ λ e. let none : p.held ≡ 0 = eqb-true p.held 0 e in
          ended_by p true (fills_now p none on) ∙ ne_eqb (length p.to_come) 0 (λ is. omega (arith, more, is))
      | false ↦ λ e. ended_by p false (ap (λ b. if b then not p.ended else false) e) ∙ on
    ] refl

pub returns-clause-end : goal.returns-clause-end
returns-clause-end c = λ p none gone.
    let size : length p.to_come ≡ 0 = ap length gone in
    elim p.ended as (λ b. p.ended ≡ b → ((if fills p then min p.page (length p.to_come) else p.held) - 1 ≡ 0) × ((if fills p then length p.to_come == 0 else p.ended) ≡ true)) [
      | true ↦ λ e. (held_by p false (fills_none p none e) ∙ omega (arith, none), ended_by p false (fills_none p none e) ∙ e)
      | false ↦ λ e. (held_by p true (fills_now p none e) ∙ omega (arith, size), ended_by p true (fills_now p none e) ∙ ap (λ n. n == 0) size)
    ] refl

pub returns-clause-stays : goal.returns-clause-stays
returns-clause-stays c = λ p either.
    elim either [
      | inl some ↦ (entered_by p false (held_fills_not p some), ended_by p false (held_fills_not p some))
      | inr over ↦ elim (p.held == 0) as (λ b. (p.held == 0) ≡ b → ((if fills p then p.live else p.entered) ≡ p.entered) × ((if fills p then length p.to_come == 0 else p.ended) ≡ p.ended)) [
        | true ↦ λ e. let none : p.held ≡ 0 = eqb-true p.held 0 e in (entered_by p false (fills_none p none over), ended_by p false (fills_none p none over))
        | false ↦ λ e. let no : fills p ≡ false = ap (λ b. if b then not p.ended else false) e in (entered_by p false no, ended_by p false no)
      ] refl
    ]

pub returns-clause-entered : goal.returns-clause-entered
returns-clause-entered c = λ p none on. entered_by p true (fills_now p none on)
