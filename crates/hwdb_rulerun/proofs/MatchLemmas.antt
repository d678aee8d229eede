-- Alternatives, one after the other.
use Rattle.std.proofs.Common.{◌≡◌, ℕ, suc, ◌+◌, ◌-◌, ◌<◌, ◌≤◌, Bool, true, false, List, [], ◌∷◌, ◌++◌, take, drop, length, refl, sym, ap, ◌∙◌, arith, append_assoc, append-nil, ◌==◌, eqb-true, drop-cons}
use Rattle.std.specs.Prelude.{if◌then◌else◌}
use Rattle.std.specs.List.{position_or_len}
use Rattle.std.proofs.lemmas.List.{length-drop, take_all}
use Rattle.std.proofs.Math.ListN.{drop_of_length-le}
use Rattle.hwdb_rulerun.specs.Matching.{fits_any, fits_one, is_bar, has_class, begins_class}

one_more : (n : ℕ) → 1 + n ≡ suc n
one_more n = omega arith

bar_here : (b : ℕ) (rest : List ℕ) → is_bar b ≡ true → position_or_len is_bar (b ∷ rest) ≡ 0
bar_here b rest e = rw e refl

bar_later : (b : ℕ) (rest : List ℕ) → is_bar b ≡ false → position_or_len is_bar (b ∷ rest) ≡ suc (position_or_len is_bar rest)
bar_later b rest e = rw e (one_more (position_or_len is_bar rest))

yes_here : (g : Bool) (text front rest : List ℕ) (b : ℕ) → is_bar b ≡ true
    → fits_any g text front (b ∷ rest) ≡ (if fits_one g text front then true else fits_any g text [] rest)
yes_here g text front rest b e = rw e refl

no_here : (g : Bool) (text front rest : List ℕ) (b : ℕ) → is_bar b ≡ false
    → fits_any g text front (b ∷ rest) ≡ fits_any g text (front ++ (b ∷ [])) rest
no_here g text front rest b e = rw e refl

as_it_is : (b : Bool) → (if b then true else false) ≡ b
as_it_is true = refl
as_it_is false = refl

-- a value is its first alternative, and the others
step : (g : Bool) (text front rest : List ℕ)
    → fits_any g text front rest
    ≡ (if fits_one g text (front ++ take (position_or_len is_bar rest) rest) then true else fits_any g text [] (drop (position_or_len is_bar rest + 1) rest))
step g text front [] =
    sym (as_it_is (fits_one g text front)) ∙ ap (λ (x : List ℕ). if fits_one g text x then true else false) (sym (append-nil front))
step g text front (b ∷ rest) = by (is_bar b) refl (step g text (front ++ (b ∷ [])) rest)
  where
    by : (c : Bool) → is_bar b ≡ c
        → (fits_any g text (front ++ (b ∷ [])) rest
        ≡ (if fits_one g text ((front ++ (b ∷ [])) ++ take (position_or_len is_bar rest) rest) then true
        else fits_any g text [] (drop (position_or_len is_bar rest + 1) rest)))
        → fits_any g text front (b ∷ rest)
        ≡ (if fits_one g text (front ++ take (position_or_len is_bar (b ∷ rest)) (b ∷ rest)) then true
        else fits_any g text [] (drop (position_or_len is_bar (b ∷ rest) + 1) (b ∷ rest)))
    by true e ih =
        yes_here g text front rest b e
        ∙ ap (λ (x : List ℕ). if fits_one g text x then true else fits_any g text [] rest) (sym (append-nil front))
        ∙ ap (λ (n : ℕ). if fits_one g text (front ++ take n (b ∷ rest)) then true else fits_any g text [] (drop (n + 1) (b ∷ rest))) (sym (bar_here b rest e))
    by false e ih =
        let p = position_or_len is_bar rest in
        let next : p + 1 ≡ suc p = omega arith in
        let two : suc p + 1 ≡ suc (suc p) = omega arith in
        no_here g text front rest b e
        ∙ ih
        ∙ ap (λ (x : List ℕ). if fits_one g text x then true else fits_any g text [] (drop (p + 1) rest)) (append_assoc front (b ∷ []) (take p rest))
        ∙ ap (λ (n : ℕ). if fits_one g text (front ++ (b ∷ take p rest)) then true else fits_any g text [] (drop n rest)) next
        ∙ ap (λ (n : ℕ). if fits_one g text (front ++ take (suc p) (b ∷ rest)) then true else fits_any g text [] (drop n (b ∷ rest))) (sym two)
        ∙ ap (λ (n : ℕ). if fits_one g text (front ++ take n (b ∷ rest)) then true else fits_any g text [] (drop (n + 1) (b ∷ rest))) (sym (bar_later b rest e))

first : (g : Bool) (text rest : List ℕ) (len : ℕ) (b : Bool) → len ≡ position_or_len is_bar rest → b ≡ fits_one g text (take len rest)
    → fits_any g text [] rest ≡ (if b then true else fits_any g text [] (drop (position_or_len is_bar rest + 1) rest))
first g text rest len b l e =
    step g text [] rest
    ∙ ap (λ (x : Bool). if x then true else fits_any g text [] (drop (position_or_len is_bar rest + 1) rest)) (ap (λ (n : ℕ). fits_one g text (take n rest)) (sym l) ∙ sym e)

pub hit : (g : Bool) (text rest : List ℕ) (len : ℕ) (b : Bool) → len ≡ position_or_len is_bar rest → b ≡ fits_one g text (take len rest) → b ≡ true
    → true ≡ fits_any g text [] rest
hit g text rest len b l e t =
    sym (first g text rest len b l e ∙ ap (λ (x : Bool). if x then true else fits_any g text [] (drop (position_or_len is_bar rest + 1) rest)) t)

pub missed : (g : Bool) (text rest next : List ℕ) (len : ℕ) (b : Bool) → len ≡ position_or_len is_bar rest → b ≡ fits_one g text (take len rest) → b ≡ false
    → next ≡ drop (position_or_len is_bar rest + 1) rest → fits_any g text [] next ≡ fits_any g text [] rest
missed g text rest next len b l e t n =
    ap (fits_any g text []) n
    ∙ sym (first g text rest len b l e ∙ ap (λ (x : Bool). if x then true else fits_any g text [] (drop (position_or_len is_bar rest + 1) rest)) t)

pub none_left : (g : Bool) (text rest : List ℕ) (b : Bool) → b ≡ (length rest == 0) → b ≡ true → false ≡ fits_any g text [] rest
none_left g text [] b is left = refl
none_left g text (x ∷ rest) b is left = absurd (omega (arith, eqb-true (length (x ∷ rest)) 0 (sym is ∙ left)))

pub fewer : (rest next : List ℕ) (b : Bool) → b ≡ (length rest == 0) → b ≡ false → next ≡ drop (position_or_len is_bar rest + 1) rest → length next < length rest
fewer [] next b is left n = let e : true ≡ false = sym is ∙ left in cc
fewer (x ∷ rest) next b is left n =
    omega (arith, ap length n, length-drop (position_or_len is_bar (x ∷ rest) + 1) (x ∷ rest))

pub past_end : (xs : List ℕ) (m p : ℕ) → m ≡ p → length xs ≤ m → drop m xs ≡ drop (p + 1) xs
past_end xs m p e h = drop_of_length-le xs h ∙ sym (drop_of_length-le xs (omega arith))

class_step : (text : List ℕ) (at : ℕ) → at < length text
    → has_class (drop at text) ≡ (if begins_class (drop at text) then true else has_class (drop (at + 1) text))
class_step text at h =
    let d = drop-cons text at 0 h in
    let next : suc at ≡ at + 1 = omega arith in
    ap has_class d
    ∙ ap (λ (l : List ℕ). if begins_class l then true else has_class (drop (suc at) text)) (sym d)
    ∙ ap (λ (n : ℕ). if begins_class (drop at text) then true else has_class (drop n text)) next

rest_is : (text : List ℕ) (at : ℕ) → take (length text - at) (drop at text) ≡ drop at text
rest_is text at = take_all (length text - at) (drop at text) (omega (arith, length-drop at text))

pub class_hit : (text : List ℕ) (at : ℕ) (b : Bool) → at < length text → b ≡ begins_class (take (length text - at) (drop at text)) → b ≡ true
    → true ≡ has_class (drop at text)
class_hit text at b h e t =
    sym
    (class_step text at h
    ∙ ap (λ (x : Bool). if x then true else has_class (drop (at + 1) text)) (sym (ap begins_class (rest_is text at)) ∙ sym e ∙ t))

pub class_missed : (text : List ℕ) (at : ℕ) (b : Bool) → at < length text → b ≡ begins_class (take (length text - at) (drop at text)) → b ≡ false
    → has_class (drop (at + 1) text) ≡ has_class (drop at text)
class_missed text at b h e t =
    sym
    (class_step text at h
    ∙ ap (λ (x : Bool). if x then true else has_class (drop (at + 1) text)) (sym (ap begins_class (rest_is text at)) ∙ sym e ∙ t))
