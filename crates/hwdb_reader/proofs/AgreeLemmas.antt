-- What agrees, step by step.
use Rattle.std.proofs.Common.{◌≡◌, ◌≢◌, ◌≤◌, ◌<◌, ◌+◌, ◌-◌, ◌↔◌, ℕ, List, get_or, length, max, refl, sym, ap, ◌∙◌, arith, ◌⊎◌, ⊎_elim, IsTrue, Less, nat_lt}
use Rattle.std.proofs.Math.ListN.{get_or-eq_default}
use Rattle.std.proofs.lemmas.Bool.{ltb-true, lt-ltb}
use Rattle.std.proofs.lemmas.Cmp.{tied_itself}
use Rattle.std.specs.Cmp.Lexicographic.{nat_list_cmp_total}
use Rattle.hwdb_spec.specs.Assignment.{text_cmp}
use Rattle.hwdb_spec.specs.Format.{text_at}
use Rattle.hwdb_reader.specs.Internal.Repeats.{Agree, AgreeInside, Ends, StandFor}
use Rattle.hwdb_reader.proofs.RunLemmas.{lt_or}
use Rattle.hwdb_reader.proofs.TextLemmas.{below, not_below}

-- after the bytes there are none but 0
pub beyond : (b : List ℕ) (i : ℕ) → length b ≤ i → get_or b i 0 ≡ 0
beyond b i h = get_or-eq_default b 0 h

-- a byte that isn't 0 is one of the bytes
pub within : (b : List ℕ) (i : ℕ) → (get_or b i 0 ≡ 0 → ⊥) → i < length b
within b i h = ⊎_elim (λ lt. lt) (λ le. absurd (h (beyond b i le))) (lt_or i (length b))

pub none_agree : (b : List ℕ) (x y : ℕ) → x ≤ length b → y ≤ length b → AgreeInside b x y 0
none_agree b x y lx ly = record { agree = λ j lt. absurd (omega (arith, lt)); left = omega (arith, lx); right = omega (arith, ly) }

-- some bytes, and some after them
pub agree_on : (b : List ℕ) (p q n m : ℕ) → AgreeInside b p q n → AgreeInside b (p + n) (q + n) m → AgreeInside b p q (n + m)
agree_on b p q n m first next = record {
  agree = λ j lt.
      ⊎_elim {C = (get_or b (p + j) 0 ≡ get_or b (q + j) 0) × (get_or b (p + j) 0 ≡ 0 → ⊥)}
      (λ before. first.agree j before)
      (λ behind.
      let at : p + n + (j - n) ≡ p + j = omega (arith, behind) in
      let other : q + n + (j - n) ≡ q + j = omega (arith, behind) in
      let h = next.agree (j - n) (omega (arith, behind, lt)) in
      (sym (ap (λ i. get_or b i 0) at) ∙ h.0 ∙ ap (λ i. get_or b i 0) other, λ none. h.1 (ap (λ i. get_or b i 0) at ∙ none)))
      (lt_or j n);
  left = omega (arith, next.left);
  right = omega (arith, next.right);
}

-- one byte more
pub agree_one : (b : List ℕ) (p q n : ℕ) → AgreeInside b p q n → get_or b (p + n) 0 ≡ get_or b (q + n) 0 → (get_or b (p + n) 0 ≡ 0 → ⊥) → AgreeInside b p q (n + 1)
agree_one b p q n h same some =
    agree_on b p q n 1 h (record {
      agree = λ j lt.
          let none : j ≡ 0 = omega (arith, lt) in
          let left : p + n + j ≡ p + n = omega (arith, none) in
          let right : q + n + j ≡ q + n = omega (arith, none) in
          (ap (λ i. get_or b i 0) left ∙ same ∙ sym (ap (λ i. get_or b i 0) right), λ z. some (sym (ap (λ i. get_or b i 0) left) ∙ z));
      left = omega (arith, within b (p + n) some);
      right = omega (arith, within b (q + n) (λ z. some (same ∙ z)));
    })

-- what agrees at the places that were exchanged for others agrees there
pub agree_there : (b : List ℕ) (p q x y n m : ℕ) → StandFor b p q x y n → m ≤ n → Agree b x y m → AgreeInside b p q m
agree_there b p q x y n m h le same = record {
  agree = λ j lt.
      let left = h.left j (omega (arith, le, lt)) in
      let right = h.right j (omega (arith, le, lt)) in
      let here = same j lt in
      (left ∙ here.0 ∙ sym right, λ none. here.1 (sym left ∙ none));
  left = omega (arith, h.from_left, le);
  right = omega (arith, h.from_right, le);
}

pub agree_at_one : (b : List ℕ) (p q x y n : ℕ) → StandFor b p q x y n → x ≡ y → AgreeInside b p q n
agree_at_one b p q x y n h one =
    agree_there b p q x y n n h (omega arith) (λ j lt. (ap (λ z. get_or b (z + j) 0) one, h.full one j lt))

-- what doesn't agree there doesn't agree here
pub ends_there : (b : List ℕ) (p q x y n m : ℕ) → StandFor b p q x y n → m ≡ 1 → (Agree b x y m → ⊥) → Ends b p q
ends_there b p q x y n m h one differ same =
    ⊎_elim {C = get_or b p 0 ≡ 0}
    (λ some. absurd (differ (λ j lt.
    let none : j ≡ 0 = omega (arith, one, lt) in
    let left : get_or b p 0 ≡ get_or b (x + j) 0 = ap (λ i. get_or b i 0) (let e : p ≡ p + j = omega (arith, none) in e) ∙ h.left j (omega (arith, none, h.some)) in
    let right : get_or b q 0 ≡ get_or b (y + j) 0 = ap (λ i. get_or b i 0) (let e : q ≡ q + j = omega (arith, none) in e) ∙ h.right j (omega (arith, none, h.some)) in
    (sym left ∙ same ∙ right, λ z. let w = left ∙ z in omega (arith, w, some)))))
    (λ le. omega (arith, le))
    (lt_or 0 (get_or b p 0))

-- the first places, in exchange for themselves
pub stand_first : (b : List ℕ) (p q n : ℕ) → (p ≡ q → ⊥) → n ≡ length b - max p q → p < length b → q < length b → StandFor b p q p q n
stand_first b p q n differ is lp lq = record {
  left = λ j lt. refl;
  right = λ j lt. refl;
  full = λ e. absurd (differ e);
  left_inside = omega (arith, is, lp, lq);
  right_inside = omega (arith, is, lp, lq);
  some = omega (arith, is, lp, lq);
  from_left = omega (arith, is, lp, lq);
  from_right = omega (arith, is, lp, lq);
}

-- which text is less, by the bytes after what agrees
pub less_is : (b : List ℕ) (p q n : ℕ) → AgreeInside b p q n → Ends b (p + n) (q + n) → (get_or b (p + n) 0 < get_or b (q + n) 0) ↔ (text_cmp (text_at b p) (text_at b q) ≡ Less)
less_is b p q n h ends = (
  λ lt. below b p q n h.agree lt,
  λ less. ⊎_elim (λ lt. lt) (λ le. absurd (not_below b p q n h.agree (λ lt. omega (arith, lt, le)) ends less)) (lt_or (get_or b (p + n) 0) (get_or b (q + n) 0)),
)

pub not_less_itself : (s : List ℕ) → text_cmp s s ≡ Less → ⊥
not_less_itself s e = let k = tied_itself nat_list_cmp_total s in cc

-- as `less_is`, of two bytes that were read
pub less_of_bytes : (b : List ℕ) (p q n x y : ℕ) → AgreeInside b p q n → x ≡ get_or b (p + n) 0 → y ≡ get_or b (q + n) 0 → Ends b (p + n) (q + n)
    → IsTrue (nat_lt x y) ↔ (text_cmp (text_at b p) (text_at b q) ≡ Less)
less_of_bytes b p q n x y h is_x is_y ends =
    let both = less_is b p q n h ends in
    (λ t. let lt = ltb-true x y t in both.0 (omega (arith, lt, is_x, is_y)), λ less. let lt = both.1 less in lt-ltb x y (omega (arith, lt, is_x, is_y)))

-- two bytes that were read and differ, or are 0
pub ends_of_bytes : (x y u v : ℕ) → x ≡ u → y ≡ v → (x ≢ y) ⊎ (x ≡ 0) → u ≡ v → u ≡ 0
ends_of_bytes x y u v is_x is_y differ same =
    ⊎_elim {C = u ≡ 0} (λ no_same. absurd (no_same (omega (arith, is_x, is_y, same)))) (λ none. omega (arith, none, is_x)) differ
