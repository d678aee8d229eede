-- Repeats that are made of what agrees, and of two that touch.
use Rattle.std.proofs.Common.{◌≡◌, ◌≤◌, ◌<◌, ◌+◌, ◌-◌, ℕ, List, get_or, min, max, sym, ap, ◌∙◌, arith, subst, inl, inr, ◌⊎◌, ⊎_elim}
use Rattle.hwdb_reader.specs.Internal.Repeats.{HasPeriod, IsFull, AgreeInside, IsRepeat}
use Rattle.hwdb_reader.proofs.RunLemmas.{lt_or, widened, together, full_together, full_run}

-- the smaller of two numbers is one of them
min_is : (x y : ℕ) → (min x y ≡ x) ⊎ (min x y ≡ y)
min_is x y = ⊎_elim (λ h. inl (omega (arith, h))) (λ h. inr (omega (arith, h))) (lt_or x y)

max_is : (x y : ℕ) → (max x y ≡ x) ⊎ (max x y ≡ y)
max_is x y = ⊎_elim (λ h. inr (omega (arith, h))) (λ h. inl (omega (arith, h))) (lt_or x y)

ordered : (b : List ℕ) (x y n : ℕ) → x ≤ y → AgreeInside b x y n → IsRepeat b x (y - x) (x + n)
ordered b x y n le h = record {
  again = λ i low lt.
      let at : x + (i - x) ≡ i = omega (arith, low) in
      let on : y + (i - x) ≡ i + (y - x) = omega (arith, low, le) in
      ap (λ p. get_or b p 0) (sym at) ∙ (h.agree (i - x) (omega (arith, low, lt))).0 ∙ ap (λ p. get_or b p 0) on;
  full = λ i low lt none.
      let at : x + (i - x) ≡ i = omega (arith, low) in
      (h.agree (i - x) (omega (arith, low, lt))).1 (ap (λ p. get_or b p 0) at ∙ none);
  inside = omega (arith, h.right, le);
}

turned : (b : List ℕ) (x y n : ℕ) → AgreeInside b x y n → AgreeInside b y x n
turned b x y n h = record {
  agree = λ j lt. let p = h.agree j lt in (sym p.0, λ none. p.1 (p.0 ∙ none));
  left = h.right;
  right = h.left;
}

-- what agrees is a repeat
pub repeat_of : (b : List ℕ) (x y n first gap end : ℕ) → AgreeInside b x y n → first ≡ min x y → gap ≡ max x y - first → end ≡ first + n → IsRepeat b first gap end
repeat_of b x y n first gap end h fi ga en =
    let of : (p q : ℕ) → p ≤ q → AgreeInside b p q n → first ≡ p → gap ≡ q - p → end ≡ p + n → IsRepeat b first gap end =
    λ p q le same f g e.
    subst (λ (z : ℕ). IsRepeat b first gap z) (sym e)
    (subst (λ (z : ℕ). IsRepeat b first z (p + n)) (sym g)
    (subst (λ (z : ℕ). IsRepeat b z (q - p) (p + n)) (sym f) (ordered b p q n le same))) in
    ⊎_elim (λ lt. of x y (omega (arith, lt)) h (omega (arith, fi, lt)) (omega (arith, ga, fi, lt)) (omega (arith, en, fi, lt)))
    (λ le. of y x le (turned b x y n h) (omega (arith, fi, le)) (omega (arith, ga, fi, le)) (omega (arith, en, fi, le)))
    (lt_or x y)

-- two of one gap that touch
pub touching : (b : List ℕ) (f e h z gap : ℕ) → IsRepeat b f gap e → IsRepeat b h gap z → h ≤ e → f ≤ z → IsRepeat b (min f h) gap (max e z)
touching b f e h z gap one other left right =
    let low = min_is f h in
    let high = max_is e z in
    record {
      again = together (λ i. get_or b i 0) f (e + gap) h (z + gap) (min f h) (max e z + gap) gap one.again other.again (omega (arith, left)) (omega (arith, right)) low
          (⊎_elim (λ x. inl (omega (arith, x))) (λ x. inr (omega (arith, x))) high);
      full = full_together (λ i. get_or b i 0) f e h z (min f h) (max e z) one.full other.full left right low high;
      inside = omega (arith, one.inside, other.inside);
    }

narrowed : (at : ℕ → ℕ) (s e f h g : ℕ) → HasPeriod at s e g → s ≤ f → h ≤ e → HasPeriod at f h g
narrowed at s e f h g p low high i from lt = p i (omega (arith, low, from)) (omega (arith, high, lt))

-- two runs that share as many bytes as both of their periods
pub runs : (b : List ℕ) (f x e h y z from to long short g : ℕ) → IsRepeat b f x e → IsRepeat b h y z
    → 0 < x → f + x ≤ e → 0 < y → h + y ≤ z
    → from ≡ max f h → to ≡ min (e + x) (z + y) → from + x + y ≤ to
    → long ≡ max x y → short ≡ min x y → 0 < g → g ≤ short
    → ((at : ℕ → ℕ) (s t : ℕ) → s + long + short ≤ t → HasPeriod at s t long → HasPeriod at s t short → HasPeriod at s t g)
    → IsRepeat b (min f h) g (max (e + x) (z + y) - g)
runs b f x e h y z from to long short g one other x_some x_run y_some y_run is_from is_to room is_long is_short some small period =
    let at : ℕ → ℕ = λ i. get_or b i 0 in
    let px : HasPeriod at from to x = narrowed at f (e + x) from to x one.again (omega (arith, is_from)) (omega (arith, is_to)) in
    let py : HasPeriod at from to y = narrowed at h (z + y) from to y other.again (omega (arith, is_from)) (omega (arith, is_to)) in
    let inner : HasPeriod at from to g =
    ⊎_elim
    (λ lt. period at from to (omega (arith, room, is_long, is_short, lt)) (subst (λ (p : ℕ). HasPeriod at from to p) (omega (arith, is_long, lt)) py) (subst (λ (p : ℕ). HasPeriod at from to p) (omega (arith, is_short, lt)) px))
    (λ le. period at from to (omega (arith, room, is_long, is_short, le)) (subst (λ (p : ℕ). HasPeriod at from to p) (omega (arith, is_long, le)) px) (subst (λ (p : ℕ). HasPeriod at from to p) (omega (arith, is_short, le)) py))
    (lt_or x y) in
    let wx : HasPeriod at f (e + x) g = widened at from to f (e + x) x g inner one.again (omega (arith, is_from)) (omega (arith, is_to)) (omega (arith, room, small, is_short)) x_some in
    let wy : HasPeriod at h (z + y) g = widened at from to h (z + y) y g inner other.again (omega (arith, is_from)) (omega (arith, is_to)) (omega (arith, room, small, is_short)) y_some in
    let low = min_is f h in
    let high = max_is (e + x) (z + y) in
    let all : HasPeriod at (min f h) (max (e + x) (z + y)) g =
    together at f (e + x) h (z + y) (min f h) (max (e + x) (z + y)) g wx wy (omega (arith, is_from, is_to, room, small, is_short)) (omega (arith, is_from, is_to, room, small, is_short)) low high in
    let full : IsFull at (min f h) (max (e + x) (z + y)) =
    full_together at f (e + x) h (z + y) (min f h) (max (e + x) (z + y)) (full_run at f e x one.again x_some x_run one.full) (full_run at h z y other.again y_some y_run other.full)
    (omega (arith, is_from, is_to, room)) (omega (arith, is_from, is_to, room)) low high in
    let fits : max (e + x) (z + y) - g + g ≡ max (e + x) (z + y) = omega (arith, small, is_short, x_run) in
    record {
      again = subst (λ (t : ℕ). HasPeriod at (min f h) t g) (sym fits) all;
      full = λ i from lt. full i from (omega (arith, lt));
      inside = omega (arith, fits, one.inside, other.inside);
    }

-- as `runs`, for a beginning and an end that have names
pub runs_from : (b : List ℕ) (f x e h y z a w g : ℕ) → a ≡ min f h → w ≡ max (e + x) (z + y) → IsRepeat b (min f h) g (max (e + x) (z + y) - g) → IsRepeat b a g (w - g)
runs_from b f x e h y z a w g low high r =
    subst (λ (p : ℕ). IsRepeat b p g (w - g)) (sym low) (subst (λ (p : ℕ). IsRepeat b (min f h) g (p - g)) (sym high) r)
