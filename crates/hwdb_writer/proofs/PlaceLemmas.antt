-- The offsets of the strings of a table.
use Rattle.std.proofs.Common.{◌≡◌, ◌≤◌, ◌<◌, ℕ, zero, suc, ◌+◌, ◌-◌, ◌^◌, List, [], ◌∷◌, length, get_or, min, cond, Bool, true, false, refl, sym, ◌∙◌, ap, subst, arith, Ordering, length-append, nat_eq}
use Rattle.std.specs.declared.cmp.Ordering.TheVariants.{Less, Equal, Greater}
use Rattle.std.specs.Ordering.{nat_cmp, is_lt, is_eq, ordering_reverse}
use Rattle.std.specs.List.{dedup_from}
use Rattle.std.specs.List.Sorted.{IsSorted}
use Rattle.std.specs.Cmp.{tied_itself}
use Rattle.std.specs.Cmp.Lexicographic.{slice_cmp, nat_list_cmp_total, pointwise, same_text, texts_ties}
use Rattle.std.specs.FinMap.Entries.{by_order}
use Rattle.std.proofs.lemmas.List.Sorted.{sorted_far, ranks_by}
use Rattle.hwdb_spec.specs.Written.{place_of, section_of, ended}
use Rattle.hwdb_writer.specs.Internal.Numbered.{distinct, bounded_place, bounded_end, IsReached, IsNew, IsOld}

pub length-section : (s : List ℕ) (ss : List (List ℕ)) → length (section_of (s ∷ ss)) ≡ length s + 1 + length (section_of ss)
length-section s ss = length-append (ended s) (section_of ss) ∙ ap (λ n. n + length (section_of ss)) (length-append s (0 ∷ []))

-- what a loop reads after the end
abbrev pub nothing : List ℕ
nothing = []

abbrev pub text_in : List (List ℕ) → ℕ → List ℕ
text_in xs i = get_or xs i nothing

abbrev R : List ℕ → List ℕ → Ordering
R = slice_cmp nat_cmp

abbrev same : List ℕ → List ℕ → Bool
same = pointwise nat_eq

-- no string is less than one before it
abbrev pub Rises : List (List ℕ) → Type 0
Rises ts = (i j : ℕ) → i < j → j < length ts → is_lt (R (text_in ts j) (text_in ts i)) ≡ false

pub rises : (ts : List (List ℕ)) → IsSorted R ts → Rises ts
rises ts up i j a b = sorted_far (λ x y. is_lt (R x y)) (ranks_by nat_list_cmp_total (λ x. x)) ts up i j nothing (omega (arith, a)) b

rest_rises : (x : List ℕ) (xs : List (List ℕ)) → Rises (x ∷ xs) → Rises xs
rest_rises x xs up i j a b = up (suc i) (suc j) (omega (arith, a)) (omega (arith, b))

-- a string after another one is greater
greater_than : (x y : List ℕ) (r : Ordering) → R y x ≡ r → is_lt r ≡ false → same y x ≡ false → R x y ≡ Less
greater_than x y Less e h f = absurd (let k : true ≡ false = h in cc)
greater_than x y Equal e h f = absurd (let k : true ≡ false = sym (ap is_eq e) ∙ sym (texts_ties y x) ∙ f in cc)
greater_than x y Greater e h f = nat_list_cmp_total.antisymm x y ∙ ap ordering_reverse e

above : (x y t : List ℕ) (r : Ordering) → R t x ≡ r → R x y ≡ Less → is_lt (R t y) ≡ false → R x t ≡ Less
above x y t Less e lt h = absurd (let k : true ≡ false = sym (ap is_lt (nat_list_cmp_total.trans t x y e lt)) ∙ h in cc)
above x y t Equal e lt h = absurd (let k : true ≡ false = sym (ap is_lt (nat_list_cmp_total.congr t x y e ∙ lt)) ∙ h in cc)
above x y t Greater e lt h = nat_list_cmp_total.antisymm x t ∙ ap ordering_reverse e

all_above : (x y : List ℕ) (ys : List (List ℕ)) (m : ℕ) → R x y ≡ Less → Rises (y ∷ ys) → m < length (y ∷ ys) → R x (text_in (y ∷ ys) m) ≡ Less
all_above x y ys zero lt up within = lt
all_above x y ys (suc m) lt up within = above x y (text_in ys m) (R (text_in ys m) x) refl lt (up 0 (suc m) (omega arith) within)

one_place : (from : ℕ) (x : List ℕ) (rest : List (List ℕ)) → place_of from (x ∷ rest) x ≡ from
unfolding place_of
one_place from x rest = sym (ap (λ r. by_order r from from (place_of (from + length x + 1) rest x)) (sym (tied_itself nat_list_cmp_total x)))

past_place : (from : ℕ) (x s : List ℕ) (rest : List (List ℕ)) → R x s ≡ Less → place_of from (x ∷ rest) s ≡ place_of (from + length x + 1) rest s
unfolding place_of
past_place from x s rest lt =
    sym (ap (λ r. by_order r from from (place_of (from + length x + 1) rest s)) (sym (nat_list_cmp_total.antisymm s x ∙ ap ordering_reverse lt)))

abbrev left : List ℕ → List (List ℕ) → List (List ℕ)
left x xs = dedup_from same x xs

head_by : (from : ℕ) (x y : List ℕ) (ys : List (List ℕ)) (b : Bool) → place_of from (left x ys) x ≡ from → place_of from (cond b (left x ys) (x ∷ left y ys)) x ≡ from
head_by from x y ys true h = h
head_by from x y ys false h = one_place from x (left y ys)

head_place : (from : ℕ) (x : List ℕ) (xs : List (List ℕ)) → place_of from (left x xs) x ≡ from
head_place from x [] = one_place from x []
head_place from x (y ∷ ys) = head_by from x y ys (same y x) (head_place from x ys)

-- the offset of a string is where the one before it ends
abbrev Follows : ℕ → List (List ℕ) → List (List ℕ) → ℕ → Type 0
Follows from table ts k = place_of from table (text_in ts (suc k)) ≡ place_of from table (text_in ts k) + length (text_in ts k) + 1

next_by : (from : ℕ) (x y : List ℕ) (ys : List (List ℕ)) (k : ℕ) (b : Bool) → same y x ≡ b → Rises (x ∷ y ∷ ys) →
    ((f m : ℕ) → suc m < length (y ∷ ys) → same (text_in (y ∷ ys) (suc m)) (text_in (y ∷ ys) m) ≡ false → Follows f (left y ys) (y ∷ ys) m) → suc k < length (x ∷ y ∷ ys) →
    same (text_in (x ∷ y ∷ ys) (suc k)) (text_in (x ∷ y ∷ ys) k) ≡ false → Follows from (cond b (left x ys) (x ∷ left y ys)) (x ∷ y ∷ ys) k
next_by from x y ys zero true e up ih lt new = absurd (let k : true ≡ false = sym e ∙ new in cc)
next_by from x y ys (suc m) true e up ih lt new =
    subst (λ (z : List ℕ). Follows from (left z ys) (y ∷ ys) m) (same_text y x (sym e)) (ih from m (omega (arith, lt)) new)
next_by from x y ys zero false e up ih lt new =
    let less = greater_than x y (R y x) refl (up 0 1 (omega arith) (omega (arith, lt))) e in
    past_place from x y (left y ys) less ∙ head_place (from + length x + 1) y ys ∙ ap (λ n. n + length x + 1) (sym (one_place from x (left y ys)))
next_by from x y ys (suc m) false e up ih lt new =
    let less = greater_than x y (R y x) refl (up 0 1 (omega arith) (omega (arith, lt))) e in
    let rest = rest_rises x (y ∷ ys) up in
    past_place from x (text_in ys m) (left y ys) (all_above x y ys (suc m) less rest (omega (arith, lt)))
    ∙ ih (from + length x + 1) m (omega (arith, lt)) new
    ∙ ap (λ n. n + length (text_in (y ∷ ys) m) + 1) (sym (past_place from x (text_in (y ∷ ys) m) (left y ys) (all_above x y ys m less rest (omega (arith, lt)))))

next_place : (from : ℕ) (x : List ℕ) (xs : List (List ℕ)) (k : ℕ) → Rises (x ∷ xs) → suc k < length (x ∷ xs) → same (text_in (x ∷ xs) (suc k)) (text_in (x ∷ xs) k) ≡ false → Follows from (left x xs) (x ∷ xs) k
next_place from x [] k up lt new = absurd (omega (arith, lt))
next_place from x (y ∷ ys) k up lt new = next_by from x y ys k (same y x) refl up (λ f m a b. next_place f y ys m (rest_rises x (y ∷ ys) up) a b) lt new

-- after the last string the section ends
abbrev Ends : ℕ → List (List ℕ) → List ℕ → Type 0
Ends from table s = place_of from table s + length s + 1 ≡ from + length (section_of table)

end_by : (from : ℕ) (x y : List ℕ) (ys : List (List ℕ)) (m : ℕ) (b : Bool) → same y x ≡ b → Rises (x ∷ y ∷ ys) → ((f : ℕ) → Ends f (left y ys) (text_in (y ∷ ys) m)) → suc m ≡ length (y ∷ ys) →
    Ends from (cond b (left x ys) (x ∷ left y ys)) (text_in (y ∷ ys) m)
end_by from x y ys m true e up ih last = subst (λ (z : List ℕ). Ends from (left z ys) (text_in (y ∷ ys) m)) (same_text y x (sym e)) (ih from)
end_by from x y ys m false e up ih last =
    let less = greater_than x y (R y x) refl (up 0 1 (omega arith) (omega arith)) e in
    let past = past_place from x (text_in (y ∷ ys) m) (left y ys) (all_above x y ys m less (rest_rises x (y ∷ ys) up) (omega (arith, last))) in
    let rest = ih (from + length x + 1) in
    let long = length-section x (left y ys) in
    omega (arith, past, rest, long)

end_place : (from : ℕ) (x : List ℕ) (xs : List (List ℕ)) (k : ℕ) → Rises (x ∷ xs) → suc k ≡ length (x ∷ xs) → Ends from (left x xs) (text_in (x ∷ xs) k)
end_place from x [] zero up last = let long = length-section x [] in omega (arith, one_place from x [], long)
end_place from x [] (suc k) up last = absurd (omega (arith, last))
end_place from x (y ∷ ys) zero up last = absurd (omega (arith, last))
end_place from x (y ∷ ys) (suc m) up last = end_by from x y ys m (same y x) refl up (λ f. end_place f y ys m (rest_rises x (y ∷ ys) up) (omega (arith, last))) (omega (arith, last))

-- no offset is after the section's end
within_by : (r : Ordering) (from rest whole : ℕ) → from ≤ whole → rest ≤ whole → by_order r from from rest ≤ whole
within_by Less from rest whole a b = a
within_by Equal from rest whole a b = a
within_by Greater from rest whole a b = b

pub place_within : (from : ℕ) (table : List (List ℕ)) (s : List ℕ) → place_of from table s ≤ from + length (section_of table)
unfolding place_of
place_within from [] s = omega arith
place_within from (t ∷ ts) s =
    let long = length-section t ts in
    let rest = place_within (from + length t + 1) ts s in
    within_by (R s t) from (place_of (from + length t + 1) ts s) (from + length (section_of (t ∷ ts))) (omega arith) (omega (arith, long, rest))

-- what is known after one more string
first_at : (first : ℕ) (ts : List (List ℕ)) → 0 < length ts → place_of first (distinct ts) (text_in ts 0) ≡ first
first_at first [] lt = absurd (omega (arith, lt))
first_at first (x ∷ xs) lt = head_place first x xs

next_at : (first : ℕ) (ts : List (List ℕ)) (k : ℕ) → Rises ts → suc k < length ts → same (text_in ts (suc k)) (text_in ts k) ≡ false → Follows first (distinct ts) ts k
next_at first [] k up lt new = absurd (omega (arith, lt))
next_at first (x ∷ xs) k up lt new = next_place first x xs k up lt new

last_at : (first : ℕ) (ts : List (List ℕ)) (k : ℕ) → Rises ts → suc k ≡ length ts → Ends first (distinct ts) (text_in ts k)
last_at first [] k up last = absurd (omega (arith, last))
last_at first (x ∷ xs) k up last = end_place first x xs k up last

pub nothing_reached : (first : ℕ) (ts : List (List ℕ)) → IsReached first ts 0 first first
nothing_reached first ts = record { begun = λ e. refl; started = λ k e. absurd (omega (arith, e)); ended = λ k e. absurd (omega (arith, e)) }

-- the offset of a new string is the end so far
begins : (first : ℕ) (ts : List (List ℕ)) (i start end : ℕ) → first < 2 ^ 64 → Rises ts → i < length ts → IsNew ts i → IsReached first ts i start end → end ≡ bounded_place first (distinct ts) (text_in ts i)
begins first ts zero start end fits up lt new h = let e = h.begun refl in let f = first_at first ts lt in omega (arith, e, f, fits)
begins first ts (suc k) start end fits up lt new h =
    let e = h.ended k (omega arith) in
    let f = next_at first ts k up lt (new k (omega arith)) in
    omega (arith, e, f)

pub new_reached : (first : ℕ) (ts : List (List ℕ)) (i start end long sum next : ℕ) → first < 2 ^ 64 → Rises ts → i < length ts → IsNew ts i → IsReached first ts i start end →
    long ≡ min (length (text_in ts i)) (2 ^ 64 - 1) → sum ≡ min (end + long) (2 ^ 64 - 1) → next ≡ min (sum + 1) (2 ^ 64 - 1) → IsReached first ts (i + 1) end next
new_reached first ts i start end long sum next fits up lt new h a b d =
    let e = begins first ts i start end fits up lt new h in
    record {
      begun = λ z. absurd (omega (arith, z));
      started = λ k s. let j : k ≡ i = omega (arith, s) in subst (λ (n : ℕ). end ≡ bounded_place first (distinct ts) (text_in ts n)) (sym j) e;
      ended = λ k s. let j : k ≡ i = omega (arith, s) in subst (λ (n : ℕ). next ≡ min (place_of first (distinct ts) (text_in ts n) + length (text_in ts n) + 1) (2 ^ 64 - 1)) (sym j) (omega (arith, a, b, d, e));
    }

pub old_reached : (first : ℕ) (ts : List (List ℕ)) (i start end : ℕ) → IsOld ts i → IsReached first ts i start end → IsReached first ts (i + 1) start end
old_reached first ts i start end old h =
    record {
      begun = λ z. absurd (omega (arith, z));
      started = λ k s. let j : k ≡ i = omega (arith, s) in
          h.started old.before old.is ∙ ap (bounded_place first (distinct ts)) (sym old.same) ∙ ap (λ n. bounded_place first (distinct ts) (text_in ts n)) (sym j);
      ended = λ k s. let j : k ≡ i = omega (arith, s) in
          h.ended old.before old.is
          ∙ ap (λ t. min (place_of first (distinct ts) t + length t + 1) (2 ^ 64 - 1)) (sym old.same)
          ∙ ap (λ n. min (place_of first (distinct ts) (text_in ts n) + length (text_in ts n) + 1) (2 ^ 64 - 1)) (sym j);
    }

pub all_reached : (first : ℕ) (ts : List (List ℕ)) (i start end : ℕ) → first < 2 ^ 64 → Rises ts → i ≡ length ts → IsReached first ts i start end → end ≡ bounded_end first (distinct ts)
all_reached first [] zero start end fits up e h = let b = h.begun refl in omega (arith, b, fits)
all_reached first [] (suc k) start end fits up e h = absurd (omega (arith, e))
all_reached first (x ∷ xs) zero start end fits up e h = absurd (omega (arith, e))
all_reached first (x ∷ xs) (suc k) start end fits up e h =
    let a = h.ended k (omega arith) in
    let b = last_at first (x ∷ xs) k up e in
    omega (arith, a, b)
