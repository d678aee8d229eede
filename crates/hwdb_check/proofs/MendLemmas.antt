-- A pattern that is mended step by step.
use Rattle.std.proofs.Common.{◌≡◌, ◌∙◌, ◌<◌, ◌-◌, ◌≤◌, ap, arith, refl, subst, sym, ℕ, Bool, true, false, List, [], ◌∷◌, Option, None, Some, length, suc, zero}
use Rattle.std.specs.Prelude.{Vec, drop, if◌then◌else◌}
use Rattle.hwdb_spec.specs.Lines.{begins_with}
use Rattle.std.specs.declared.alloc.Global.{Global}
use Rattle.std.specs.Option.{option_map, option_or}
use Rattle.hwdb_spec_commands.specs.Mends.{is_field_after, is_fine, likely_judgement, mend_once, mended_in, moved, moved_before, start_of}
use Rattle.hwdb_check.specs.Mending.{outcome}
use Rattle.hwdb_check.specs.declared.mends.Mend.{Mend}

-- the bytes of a vector, if there is one
abbrev pub items_of : Option (Vec ℕ Global) → Option (List ℕ)
items_of found = option_map (λ (t : Vec ℕ Global). t.items) found

one_less : (n : ℕ) → suc n - 1 ≡ n
one_less n = omega arith

-- a step is left, and this comes of it
pub by_step : (steps : ℕ) (text now : List ℕ) (at : ℕ) (whole : Option (List ℕ)) (after : Mend) → 0 < steps → now ≡ text
    → mended_in steps text at ≡ whole → ((again : List ℕ → ℕ → Option (List ℕ)) → outcome again after ≡ mend_once again now at)
    → outcome (mended_in (steps - 1)) after ≡ whole
unfolding mended_in
by_step zero text now at whole after h v same is = absurd (omega (arith, h))
by_step (suc n) text now at whole after h v same is =
    ap (λ (k : ℕ). outcome (mended_in k) after) (one_less n) ∙ is (mended_in n) ∙ ap (λ (t : List ℕ). mend_once (mended_in n) t at) v ∙ same

-- no step is left
pub no_step : (steps : ℕ) (text : List ℕ) (at : ℕ) (whole : Option (List ℕ)) → steps ≤ 0 → mended_in steps text at ≡ whole → None ≡ whole
unfolding mended_in
no_step zero text at whole h same = same
no_step (suc n) text at whole h same = absurd (omega (arith, h))

-- ---- where a field begins

within_by : (b : ℕ) (n : ℕ) (xs : List ℕ) → begins_with b (drop n xs) ≡ true → n < length xs
within_by b n [] e = absurd (none_begins n e)
  where
    none_begins : (n : ℕ) → begins_with b (drop n []) ≡ true → ⊥
    none_begins zero e = cc
    none_begins (suc n) e = cc
within_by b zero (x ∷ xs) e = omega arith
within_by b (suc n) (x ∷ xs) e = let h = within_by b n xs e in omega (arith, h)

-- it begins here
pub start_here : (pattern : List ℕ) (at : ℕ) → 0 < at → begins_with 58 (drop (at - 1) pattern) ≡ true → at ≡ start_of pattern at
unfolding start_of
start_here pattern zero h e = absurd (omega (arith, h))
start_here pattern (suc n) h e =
    sym (ap (λ (b : Bool). if b then suc n else start_of pattern n) (sym (ap (λ (m : ℕ). begins_with 58 (drop m pattern)) (one_less n)) ∙ e))

pub start_within : (pattern : List ℕ) (at : ℕ) → 0 < at → begins_with 58 (drop (at - 1) pattern) ≡ true → at ≤ length pattern
start_within pattern at h e = let w = within_by 58 (at - 1) pattern e in omega (arith, h, w)

-- it begins before
pub start_back : (pattern : List ℕ) (at : ℕ) → 0 < at → begins_with 58 (drop (at - 1) pattern) ≡ false → start_of pattern (at - 1) ≡ start_of pattern at
unfolding start_of
start_back pattern zero h e = absurd (omega (arith, h))
start_back pattern (suc n) h e =
    ap (start_of pattern) (one_less n)
    ∙ sym (ap (λ (b : Bool). if b then suc n else start_of pattern n) (sym (ap (λ (m : ℕ). begins_with 58 (drop m pattern)) (one_less n)) ∙ e))

pub start_first : (pattern : List ℕ) (at : ℕ) → at ≤ 0 → 0 ≡ start_of pattern at
unfolding start_of
start_first pattern zero h = refl
start_first pattern (suc n) h = absurd (omega (arith, h))

-- ---- a field before those before it

pub moved_step : (pattern : List ℕ) (start end left : ℕ) (found : Option (List ℕ)) → 0 < left
    → ((other : Option (List ℕ)) → option_or found other ≡ (if is_field_after (left - 1) pattern then
    (if is_fine (likely_judgement (moved pattern (suc (left - 1)) start end)) then Some (moved pattern (suc (left - 1)) start end) else other) else other))
    → option_or found (moved_before pattern start end (left - 1)) ≡ moved_before pattern start end left
unfolding moved_before
moved_step pattern start end zero found h is = absurd (omega (arith, h))
moved_step pattern start end (suc n) found h is =
    ap (λ (m : ℕ). option_or found (moved_before pattern start end m)) (one_less n)
    ∙ subst (λ (m : ℕ). option_or found (moved_before pattern start end m) ≡ (if is_field_after m pattern then
    (if is_fine (likely_judgement (moved pattern (suc m) start end)) then Some (moved pattern (suc m) start end) else moved_before pattern start end m)
    else moved_before pattern start end m)) (one_less n) (is (moved_before pattern start end (suc n - 1)))

pub moved_none : (pattern : List ℕ) (start end left : ℕ) → left ≤ 0 → None ≡ moved_before pattern start end left
unfolding moved_before
moved_none pattern start end zero h = refl
moved_none pattern start end (suc n) h = absurd (omega (arith, h))
