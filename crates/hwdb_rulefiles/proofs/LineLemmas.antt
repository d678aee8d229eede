-- Pairs, one after the other.
use Rattle.std.proofs.Common.{◌≡◌, ℕ, zero, suc, ◌+◌, ◌-◌, ◌<◌, ◌≤◌, Bool, true, false, List, [], ◌∷◌, map, drop, length, get_or, refl, sym, ap, ◌∙◌, arith, Option, Some, None, ◌||◌, drop-cons, add-one}
use Rattle.hwdb_rulefiles.specs.RuleTokens.{Token}
use Rattle.hwdb_rulefiles.specs.RuleLines.{Taking, step, going, taking_most, any_acts, acts}
use Rattle.hwdb_rulefiles.specs.TokenViews.{token_of}
use Rattle.hwdb_rulefiles.specs.declared.tokens.Token as Owned

going_none : (p : Taking × Option (List ℕ)) (after : Taking → List ℕ → Taking) → None ≡ p.1 → going p after ≡ p.0
going_none (t, None) after e = refl
going_none (t, Some rest) after e = cc

going_some : (p : Taking × Option (List ℕ)) (after : Taking → List ℕ → Taking) (more : List ℕ) → Some more ≡ p.1 → going p after ≡ after p.0 more
going_some (t, None) after more e = cc
going_some (t, Some rest) after more e = let s : rest ≡ more = cc in ap (after t) s

one_more : (m n : ℕ) (t : Taking) (line : ℕ) (text rest : List ℕ) → n ≡ suc m
    → taking_most n t line text rest ≡ going (step t line text rest) (λ u more. taking_most m u line text more)
unfolding taking_most
one_more m n t line text rest e = ap (λ (k : ℕ). taking_most k t line text rest) e

pub no_more : (n : ℕ) (t : Taking) (line : ℕ) (text rest : List ℕ) → n ≡ 0 → taking_most n t line text rest ≡ t
unfolding taking_most
no_more n t line text rest e = ap (λ (k : ℕ). taking_most k t line text rest) e

pub stops : (n : ℕ) (t next : Taking) (line : ℕ) (text rest : List ℕ) → 0 < n → next ≡ (step t line text rest).0 → None ≡ (step t line text rest).1
    → next ≡ taking_most n t line text rest
stops n t next line text rest h e s =
    e ∙ sym (going_none (step t line text rest) (λ u more. taking_most (n - 1) u line text more) s) ∙ sym (one_more (n - 1) n t line text rest (omega arith))

pub goes : (n : ℕ) (t next : Taking) (line : ℕ) (text rest more : List ℕ) → 0 < n → next ≡ (step t line text rest).0 → Some more ≡ (step t line text rest).1
    → taking_most (n - 1) next line text more ≡ taking_most n t line text rest
goes n t next line text rest more h e s =
    ap (λ (u : Taking). taking_most (n - 1) u line text more) e
    ∙ sym (going_some (step t line text rest) (λ u more. taking_most (n - 1) u line text more) more s)
    ∙ sym (one_more (n - 1) n t line text rest (omega arith))
