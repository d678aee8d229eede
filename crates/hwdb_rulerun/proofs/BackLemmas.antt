-- Lists, from their last member to the first.
use Rattle.std.proofs.Common.{◌≡◌, ℕ, suc, ◌-◌, ◌<◌, ◌≤◌, Bool, true, List, [], ◌∷◌, map, drop, length, get_or, refl, sym, ap, ◌∙◌, arith, drop-cons, Option, Some}
use Rattle.std.proofs.Math.ListN.{drop_of_length-le}
use Rattle.hwdb_rulefiles.specs.RuleTokens.{Token}
use Rattle.hwdb_rulerun.specs.Conditions.{kept_len, kept_more}
use Rattle.hwdb_rulerun.specs.Sights.{Seen, Sight}
use Rattle.hwdb_rulerun.specs.Telling.{all_own, own_and, all_of, parent_and}

pub own_none : (s : Sight) (ts : List Token) → ts ≡ [] → Some true ≡ all_own s ts
own_none s ts e = sym (ap (all_own s) e)

pub own_back : (s : Sight) (ts later : List Token) (t : Token) (all next : Option Bool) → ts ≡ t ∷ later → all ≡ all_own s later → next ≡ own_and s t all
    → next ≡ all_own s ts
own_back s ts later t all next e i n = n ∙ ap (own_and s t) i ∙ sym (ap (all_own s) e)

pub of_none : (s : Seen) (ts : List Token) → ts ≡ [] → Some true ≡ all_of s ts
of_none s ts e = sym (ap (all_of s) e)

pub of_back : (s : Seen) (ts later : List Token) (t : Token) (all next : Option Bool) → ts ≡ t ∷ later → all ≡ all_of s later → next ≡ parent_and s t all
    → next ≡ all_of s ts
of_back s ts later t all next e i n = n ∙ ap (parent_and s t) i ∙ sym (ap (all_of s) e)

pub kept_none : (text : List ℕ) → 0 ≡ kept_len (drop (length text) text)
kept_none text = sym (ap kept_len (drop_of_length-le text (omega arith)))

pub kept_back : (text : List ℕ) (at len next : ℕ) → 0 < at → at ≤ length text → len ≡ kept_len (drop at text)
    → next ≡ kept_more (get_or text (at - 1) 0) len → next ≡ kept_len (drop (at - 1) text)
kept_back text at len next h k i n =
    let same : suc (at - 1) ≡ at = omega arith in
    let d : drop (at - 1) text ≡ get_or text (at - 1) 0 ∷ drop at text =
    drop-cons text (at - 1) 0 (omega arith) ∙ ap (λ (m : ℕ). get_or text (at - 1) 0 ∷ drop m text) same in
    n ∙ ap (kept_more (get_or text (at - 1) 0)) i ∙ sym (ap kept_len d)

module _ {X Y : Type 0} (f : X → Y) where
  pub dropped : (xs : List X) → map f (drop (length xs) xs) ≡ []
  dropped [] = refl
  dropped (x ∷ xs) = dropped xs

  pub one_back : (xs : List X) (at : ℕ) (x : X) → 0 < at → at ≤ length xs → x ≡ get_or xs (at - 1) x → map f (drop (at - 1) xs) ≡ f x ∷ map f (drop at xs)
  one_back xs at x some le e =
      let same : suc (at - 1) ≡ at = omega arith in
      ap (map f) (drop-cons xs (at - 1) x (omega arith) ∙ ap (λ y. y ∷ drop (suc (at - 1)) xs) (sym e)) ∙ ap (λ (n : ℕ). f x ∷ map f (drop n xs)) same
