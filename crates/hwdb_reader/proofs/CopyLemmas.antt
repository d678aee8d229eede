-- What a repeat says of the bytes at other places.
use Rattle.std.proofs.Common.{◌≡◌, ◌≤◌, ◌<◌, ◌+◌, ◌-◌, ◌*◌, ◌/◌, ◌%◌, ℕ, zero, suc, List, length, take, drop, get_or, replicate, ◌==◌, nat_eq, true≢false, refl, sym, ap, ◌∙◌, arith, subst, Bool, false, true, not, length-drop, length-take}
use Rattle.std.proofs.lemmas.List.{get_or-drop, get_or-take, ext_get_or}
use Rattle.std.proofs.lemmas.Grind.{common_steps}
use Rattle.std.proofs.Math.Nat.{div-add-mod}
use Rattle.std.specs.Cmp.Lexicographic.{pointwise, same_text, other_text}
use Rattle.hwdb_reader.specs.Internal.Repeats.{HasPeriod, Agree, AgreeInside, IsRepeat, AreRepeats}

-- a byte occurs again after each multiple of a period
pub multiple : (at : ℕ → ℕ) (s e g m i : ℕ) → HasPeriod at s e g → s ≤ i → i + g * m < e → at i ≡ at (i + g * m)
multiple at s e g zero i h le lt = ap at (omega arith)
multiple at s e g (suc m) i h le lt =
    h i le (omega arith) ∙ multiple at s e g m (i + g) h (omega arith) (omega arith) ∙ ap at (omega arith)

zero_row : (n k : ℕ) → ◌≡◌ {A = ℕ} (get_or (replicate n 0) k 0) 0
zero_row zero k = refl
zero_row (suc n) zero = refl
zero_row (suc n) (suc k) = zero_row n k

nothing : (b : List ℕ) → IsRepeat b 0 0 0
nothing b = record {
  again = λ i le lt. absurd (omega (arith, lt));
  full = λ i le lt. absurd (omega (arith, lt));
  inside = omega arith;
}

-- an empty table
pub fresh : (b : List ℕ) (n : ℕ) → AreRepeats b (replicate n 0) (replicate n 0) (replicate n 0)
fresh b n k =
    let e = sym (zero_row n k) in
    subst (λ (x : ℕ). IsRepeat b x x x) e (nothing b)

-- the bytes from a place to the end of a copy, at each place that is some gaps before
pub copied : (b : List ℕ) (first gap end place to m : ℕ) → IsRepeat b first gap end → gap ≤ place → first ≤ to → to + gap * m ≡ place → place - gap < end → first ≤ place - gap
    → AgreeInside b place to (end - (place - gap))
copied b first gap end place to m r fits low is high above = record {
  agree = λ j lt.
      let e : to + j + gap * m ≡ place + j = omega (arith, is) in
      let same : get_or b (to + j) 0 ≡ get_or b (to + j + gap * m) 0 = multiple (λ i. get_or b i 0) first (end + gap) gap m (to + j) r.again (omega arith) (omega (arith, e, lt, fits)) in
      let before : get_or b (place - gap + j) 0 ≡ get_or b (place - gap + j + gap) 0 = r.again (place - gap + j) (omega arith) (omega (arith, lt)) in
      let here : place - gap + j + gap ≡ place + j = omega (arith, fits) in (
        ap (λ i. get_or b i 0) (sym e) ∙ sym same,
        λ none. r.full (place - gap + j) (omega arith) (omega (arith, lt)) (before ∙ ap (λ i. get_or b i 0) here ∙ none),
      );
  left = omega (arith, r.inside, fits);
  right = omega (arith, r.inside, fits, is);
}

pub copied_before : (b : List ℕ) (first gap end place : ℕ) → IsRepeat b first gap end → gap ≤ place → place - gap < end → first ≤ place - gap
    → AgreeInside b place (place - gap) (end - (place - gap))
copied_before b first gap end place r fits high above = copied b first gap end place (place - gap) 1 r fits above (omega (arith, fits)) high above

pub copied_near : (b : List ℕ) (first gap end place other : ℕ) → IsRepeat b first gap end → gap ≤ place → place - gap < end → first ≤ other → other ≤ place - gap
    → AgreeInside b place (other + (place - other) % gap) (end - (place - gap))
copied_near b first gap end place other r fits high low near =
    let parts = div-add-mod (place - other) gap in
    copied b first gap end place (other + (place - other) % gap) ((place - other) / gap) r fits (omega arith) (omega (arith, parts, near)) high (omega arith)

is_zero : (x : ℕ) → x ≡ 0 → (x == 0) ≡ true
is_zero x e = grind (arith, common_steps)

zero_is : (x : ℕ) → (x == 0) ≡ true → x ≡ 0
zero_is x e = grind (arith, common_steps)

-- a byte of a slice
byte_of : (b : List ℕ) (x k j : ℕ) → j < k → get_or (take k (drop x b)) j 0 ≡ get_or b (x + j) 0
byte_of b x k j lt = get_or-take k (drop x b) j 0 lt ∙ get_or-drop x b j 0

slice_length : (b : List ℕ) (x k : ℕ) → x + k ≤ length b → length (take k (drop x b)) ≡ k
slice_length b x k room = omega (arith, length-take k (drop x b), length-drop x b, room)

pub agreed : (b : List ℕ) (x y n k m : ℕ) → k ≡ n → m ≡ n → x + n ≤ length b → take k (drop x b) ≡ take m (drop y b)
    → ((i : ℕ) → 0 ≤ i → i < length (take k (drop x b)) → (get_or (take k (drop x b)) i 0 == 0) ≡ true → ⊥) → Agree b x y n
agreed b x y n k m kn mn room same none j lt =
    let left = byte_of b x k j (omega (arith, kn, lt)) in
    let right = byte_of b y m j (omega (arith, mn, lt)) in
    let size = slice_length b x k (omega (arith, kn, room)) in (
      sym left ∙ ap (λ xs. get_or xs j 0) same ∙ right,
      λ zero. none j (omega arith) (omega (arith, size, kn, lt)) (is_zero _ (left ∙ zero)),
    )

pub agreed_same : (b : List ℕ) (x y n k m : ℕ) → k ≡ n → m ≡ n → x + n ≤ length b → y + n ≤ length b → Agree b x y n → take k (drop x b) ≡ take m (drop y b)
agreed_same b x y n k m kn mn rx ry h =
    let left = slice_length b x k (omega (arith, kn, rx)) in
    let right = slice_length b y m (omega (arith, mn, ry)) in
    ext_get_or 0 (take k (drop x b)) (take m (drop y b)) (left ∙ kn ∙ sym mn ∙ sym right)
    (λ i lt. byte_of b x k i (omega (arith, left, lt)) ∙ (h i (omega (arith, left, kn, lt))).0 ∙ sym (byte_of b y m i (omega (arith, left, kn, mn, lt))))

not_false : (t : Bool) → not t ≡ false → true ≡ t
not_false true e = refl
not_false false e = e

not_true : (t : Bool) → not t ≡ true → false ≡ t
not_true true e = e
not_true false e = refl

pub slices_same : (xs ys : List ℕ) (r : Bool) → r ≡ not (pointwise nat_eq xs ys) → r ≡ false → xs ≡ ys
slices_same xs ys r is low = same_text xs ys (not_false _ (sym is ∙ low))

pub slices_differ : (xs ys : List ℕ) (r : Bool) → r ≡ not (pointwise nat_eq xs ys) → r ≡ true → xs ≡ ys → ⊥
slices_differ xs ys r is high = other_text xs ys (not_true _ (sym is ∙ high))

pub false_true : false ≡ true → ⊥
false_true e = true≢false (sym e)
