-- Rules that may match the devices of fronts of a pattern.
use Rattle.std.proofs.Common.{◌≡◌, ◌∙◌, ap, sym, refl, subst, ℕ, zero, suc, ◌<◌, ◌==◌, ◌&&◌, Bool, true, false, cond, not, ne_eqb, nat_eq, List, [], ◌∷◌, ◌++◌, map, take, length, get_or, ⊎_elim, arith, Option, Some, None}
use Rattle.std.specs.List.{starts_with}
use Rattle.std.specs.Option.{IfSome}
use Rattle.std.proofs.lemmas.Bool.{cases_eq}
use Rattle.hwdb_spec_commands.specs.SamplesFound.{near}
use Rattle.hwdb_samples.specs.Levels.{AreLevels, IsLevel}
use Rattle.hwdb_spec_commands.specs.Overlaps.{apart, is_plain}
use Rattle.hwdb_spec_commands.specs.SampleRules.{RuleTexts}
use Rattle.hwdb_samples.specs.Views.{rule_texts}
use Rattle.hwdb_samples.specs.declared.levels.Level.{Level}

true_false : true ≡ false → ⊥
true_false e = cc

-- what is apart from a front is apart from what begins with it
same_first : (a b c : ℕ) (front text q : List ℕ) → a ≡ b → (apart front q ≡ true → apart text q ≡ true)
    → cond (is_plain a && is_plain c) (cond (a == c) (apart front q) true) false ≡ true → cond (is_plain b && is_plain c) (cond (b == c) (apart text q) true) false ≡ true
same_first a b c front text q i again e =
    subst (λ (x : ℕ). cond (is_plain x && is_plain c) (cond (x == c) (apart text q) true) false ≡ true) i
    (elim (is_plain a && is_plain c) as (λ (k : Bool). cond k (cond (a == c) (apart front q) true) false ≡ true → cond k (cond (a == c) (apart text q) true) false ≡ true) [
      | true ↦ elim (a == c) as (λ (k : Bool). cond k (apart front q) true ≡ true → cond k (apart text q) true ≡ true) [
        | true ↦ again
        | false ↦ λ z. refl
      ]
      | false ↦ λ z. z
    ] e)

second_of : (k t : Bool) → (k && t) ≡ true → t ≡ true
second_of true t e = e
second_of false t e = absurd (true_false (sym e))

pub apart_longer : (front text q : List ℕ) → starts_with nat_eq text front ≡ true → apart front q ≡ true → apart text q ≡ true
unfolding apart
apart_longer [] text q s e = absurd (true_false (sym e))
apart_longer (a ∷ front) [] q s e = absurd (true_false (sym s))
apart_longer (a ∷ front) (b ∷ text) [] s e = absurd (true_false (sym e))
apart_longer (a ∷ front) (b ∷ text) (c ∷ q) s e =
    ⊎_elim {C = cond (is_plain b && is_plain c) (cond (b == c) (apart text q) true) false ≡ true}
    (λ i. same_first a b c front text q i (apart_longer front text q (second_of (a == b) (starts_with nat_eq text front) s)) e)
    (λ n. absurd (true_false (sym s ∙ ap (λ (k : Bool). k && starts_with nat_eq text front) (ne_eqb a b n))))
    (cases_eq a b)

-- so rules that are near what begins with a front are near the front
pub near_again : (front longer : List ℕ) (rules : List RuleTexts) → starts_with nat_eq longer front ≡ true → near longer (near front rules) ≡ near longer rules
near_again front longer [] s = refl
near_again front longer (r ∷ rules) s =
    let again : near longer (near front rules) ≡ near longer rules = near_again front longer rules s in
    let far : apart front r.0 ≡ true → apart longer r.0 ≡ true = apart_longer front longer r.0 s in
    elim (apart front r.0) as (λ (k : Bool). apart front r.0 ≡ k → near longer (cond (not k) (r ∷ near front rules) (near front rules)) ≡ near longer (r ∷ rules)) [
      | true ↦ λ e. again ∙ ap (λ (k : Bool). cond (not k) (r ∷ near longer rules) (near longer rules)) (sym (far e))
      | false ↦ λ e. ap (λ (l : List RuleTexts). cond (not (apart longer r.0)) (r ∷ l) l) again
    ] refl

-- ---- levels

pub level_made : (old new : List RuleTexts) (level : Level) (front : List ℕ) → level.front.now ≡ front → map rule_texts level.old.items ≡ near front old → map rule_texts level.new.items ≡ near front new → IsLevel old new level
level_made old new level front f o n = record {
  old_ones = o ∙ ap (λ (t : List ℕ). near t old) (sym f);
  new_ones = n ∙ ap (λ (t : List ℕ). near t new) (sym f);
}

pub level_longer : (old new : List RuleTexts) (last level : Level) (front : List ℕ) → true ≡ starts_with nat_eq front last.front.now → level.front.now ≡ front
    → map rule_texts level.old.items ≡ near front (map rule_texts last.old.items) → map rule_texts level.new.items ≡ near front (map rule_texts last.new.items) → IsLevel old new last → IsLevel old new level
level_longer old new last level front s f o n is =
    level_made old new level front f
    (o ∙ ap (near front) is.old_ones ∙ near_again last.front.now front old (sym s))
    (n ∙ ap (near front) is.new_ones ∙ near_again last.front.now front new (sym s))

module _ (old new : List RuleTexts) where
  pub level_at : (levels : List Level) (i : ℕ) (d : Level) → i < length levels → AreLevels old new levels → IsLevel old new (get_or levels i d)
  level_at [] i d h are = absurd (omega arith)
  level_at (l ∷ levels) zero d h are = are.0
  level_at (l ∷ levels) (suc i) d h are = level_at levels i d (omega arith) are.1

  pub levels_taken : (n : ℕ) (levels : List Level) → AreLevels old new levels → AreLevels old new (take n levels)
  levels_taken zero levels are = tt
  levels_taken (suc n) [] are = tt
  levels_taken (suc n) (l ∷ levels) are = (are.0, levels_taken n levels are.1)

  pub levels_more : (levels : List Level) (l : Level) → AreLevels old new levels → IsLevel old new l → AreLevels old new (levels ++ l ∷ [])
  levels_more [] l are is = (is, tt)
  levels_more (k ∷ levels) l are is = (are.0, levels_more levels l are.1 is)

  -- the rules of the last level are enough
  pub near_old : (last : Level) (pattern : List ℕ) → true ≡ starts_with nat_eq pattern last.front.now → IsLevel old new last → near pattern (map rule_texts last.old.items) ≡ near pattern old
  near_old last pattern s is = ap (near pattern) is.old_ones ∙ near_again last.front.now pattern old (sym s)

  pub near_new : (last : Level) (pattern : List ℕ) → true ≡ starts_with nat_eq pattern last.front.now → IsLevel old new last → near pattern (map rule_texts last.new.items) ≡ near pattern new
  near_new last pattern s is = ap (near pattern) is.new_ones ∙ near_again last.front.now pattern new (sym s)

  pub level_after_last : (last : Level) (next : Option Level) → IfSome next (λ l. (o n : List RuleTexts) → IsLevel o n last → IsLevel o n l) → IsLevel old new last → IfSome next (λ l. IsLevel old new l)
  level_after_last last None follows is = tt
  level_after_last last (Some l) follows is = follows old new is
