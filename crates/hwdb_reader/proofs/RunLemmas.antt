-- Periods: two of them have their greatest common divisor, if they share as many bytes as both have (Fine and Wilf).
use Rattle.std.proofs.Common.{◌≡◌, ◌≤◌, ◌<◌, ◌+◌, ◌-◌, ◌*◌, ℕ, zero, suc, sym, ap, ◌∙◌, arith, inl, inr, ◌⊎◌, ⊎_elim, subst}
use Rattle.hwdb_reader.specs.Internal.Repeats.{HasPeriod, IsFull}

pub lt_or : (a b : ℕ) → (a < b) ⊎ (b ≤ a)
lt_or a zero = inr (omega arith)
lt_or zero (suc b) = inl (omega arith)
lt_or (suc a) (suc b) = ⊎_elim (λ h. inl (omega (arith, h))) (λ h. inr (omega (arith, h))) (lt_or a b)

-- of two periods the difference
pub difference : (at : ℕ → ℕ) (s e x y : ℕ) → HasPeriod at s e x → HasPeriod at s e y → y ≤ x → s + x + y ≤ e → HasPeriod at s e (x - y)
difference at s e x y hx hy le room i low lt =
    ⊎_elim {C = at i ≡ at (i + (x - y))}
    (λ inside.
    let far : i + (x - y) + y ≡ i + x = omega (arith, le) in
    hx i low inside ∙ ap at (sym far) ∙ sym (hy (i + (x - y)) (omega arith) (omega (arith, far, inside))))
    (λ behind.
    let back : i - y + y ≡ i = omega (arith, behind, room) in
    let on : i - y + x ≡ i + (x - y) = omega (arith, behind, room, le) in
    sym (hy (i - y) (omega (arith, behind, room)) (omega (arith, back, lt)) ∙ ap at back)
    ∙ hx (i - y) (omega (arith, behind, room)) (omega (arith, on, lt)) ∙ ap at on)
    (lt_or (i + x) e)

-- and what is left of the one after multiples of the other
pub remainder : (at : ℕ → ℕ) (s e x y q r : ℕ) → x ≡ y * q + r → HasPeriod at s e x → HasPeriod at s e y → s + x + y ≤ e → HasPeriod at s e r
remainder at s e x y zero r is hx hy room = subst (λ (p : ℕ). HasPeriod at s e p) (omega (arith, is)) hx
remainder at s e x y (suc q) r is hx hy room =
    remainder at s e (x - y) y q r (omega (arith, is)) (difference at s e x y hx hy (omega (arith, is)) room) hy (omega (arith, room))

-- downwards
down : (at : ℕ → ℕ) (s e f h G g n i : ℕ) → HasPeriod at s e g → HasPeriod at f h G → f ≤ i → e ≤ h → s + G + g ≤ e → 0 < G → s ≤ i + n → i + g < e → at i ≡ at (i + g)
down at s e f h G g zero i hg hG low high room some fuel lt = hg i (omega (arith, fuel)) lt
down at s e f h G g (suc n) i hg hG low high room some fuel lt =
    ⊎_elim {C = at i ≡ at (i + g)}
    (λ before.
    let swap : i + G + g ≡ i + g + G = omega arith in
    hG i low (omega (arith, before, room, high))
    ∙ down at s e f h G g n (i + G) hg hG (omega (arith, low)) high room some (omega (arith, fuel, some)) (omega (arith, before, room))
    ∙ ap at swap ∙ sym (hG (i + g) (omega (arith, low)) (omega (arith, before, room, high))))
    (λ inside. hg i inside lt)
    (lt_or i s)

-- upwards
up : (at : ℕ → ℕ) (s e f h G g n i : ℕ) → HasPeriod at s e g → HasPeriod at f h G → f ≤ s → e ≤ h → s + G + g ≤ e → 0 < G → i + g < e + n → s ≤ i → i + g < h → at i ≡ at (i + g)
up at s e f h G g zero i hg hG low high room some fuel inside lt = hg i inside (omega (arith, fuel))
up at s e f h G g (suc n) i hg hG low high room some fuel inside lt =
    ⊎_elim {C = at i ≡ at (i + g)}
    (λ within. hg i inside within)
    (λ behind.
    let back : i - G + G ≡ i = omega (arith, behind, room) in
    let on : i - G + g + G ≡ i + g = omega (arith, behind, room) in
    sym (hG (i - G) (omega (arith, behind, room, low)) (omega (arith, back, lt)) ∙ ap at back)
    ∙ up at s e f h G g n (i - G) hg hG low high room some (omega (arith, fuel, behind, room, some)) (omega (arith, behind, room)) (omega (arith, lt))
    ∙ hG (i - G + g) (omega (arith, behind, room, low)) (omega (arith, on, lt)) ∙ ap at on)
    (lt_or (i + g) e)

-- a period of a part is one of the whole, if the part has the bytes of both
pub widened : (at : ℕ → ℕ) (s e f h G g : ℕ) → HasPeriod at s e g → HasPeriod at f h G → f ≤ s → e ≤ h → s + G + g ≤ e → 0 < G → HasPeriod at f h g
widened at s e f h G g hg hG low high room some i from lt =
    ⊎_elim {C = at i ≡ at (i + g)}
    (λ before. down at s e f h G g s i hg hG from high room some (omega arith) (omega (arith, before, room)))
    (λ inside. up at s e f h G g (i + g) i hg hG low high room some (omega (arith, room, some)) inside lt)
    (lt_or i s)

-- two stretches of one period that share as many bytes
pub reaches : (at : ℕ → ℕ) (s e f h g : ℕ) → HasPeriod at s e g → HasPeriod at f h g → f + g ≤ e → HasPeriod at s h g
reaches at s e f h g one other room i low lt =
    ⊎_elim {C = at i ≡ at (i + g)} (λ inside. one i low inside) (λ behind. other i (omega (arith, behind, room)) lt) (lt_or (i + g) e)

-- either way round
pub together : (at : ℕ → ℕ) (s e f h a z g : ℕ) → HasPeriod at s e g → HasPeriod at f h g → f + g ≤ e → s + g ≤ h → (a ≡ s) ⊎ (a ≡ f) → (z ≡ e) ⊎ (z ≡ h) → HasPeriod at a z g
together at s e f h a z g one other left right from to =
    ⊎_elim
    (λ low_is. ⊎_elim
    (λ ze. subst (λ (x : ℕ). HasPeriod at x z g) (sym low_is) (subst (λ (y : ℕ). HasPeriod at s y g) (sym ze) one))
    (λ zh. subst (λ (x : ℕ). HasPeriod at x z g) (sym low_is) (subst (λ (y : ℕ). HasPeriod at s y g) (sym zh) (reaches at s e f h g one other left)))
    to)
    (λ af. ⊎_elim
    (λ ze. subst (λ (x : ℕ). HasPeriod at x z g) (sym af) (subst (λ (y : ℕ). HasPeriod at f y g) (sym ze) (reaches at f h s e g other one right)))
    (λ zh. subst (λ (x : ℕ). HasPeriod at x z g) (sym af) (subst (λ (y : ℕ). HasPeriod at f y g) (sym zh) other))
    to)
    from

-- two overlapping stretches without a 0 are one
pub full_together : (at : ℕ → ℕ) (s e f h a z : ℕ) → IsFull at s e → IsFull at f h → f ≤ e → s ≤ h → (a ≡ s) ⊎ (a ≡ f) → (z ≡ e) ⊎ (z ≡ h) → IsFull at a z
full_together at s e f h a z one other left right from to i low lt =
    ⊎_elim
    (λ below. ⊎_elim
    (λ low_is. one i (omega (arith, low_is, low)) below)
    (λ af. ⊎_elim (λ before. other i (omega (arith, af, low)) before) (λ behind. one i (omega (arith, right, behind)) below) (lt_or i h))
    from)
    (λ above. ⊎_elim
    (λ ze. absurd (omega (arith, ze, lt, above)))
    (λ zh. other i (omega (arith, left, above)) (omega (arith, zh, lt)))
    to)
    (lt_or i e)

-- a run without a 0 before its last period has none in it
pub full_run : (at : ℕ → ℕ) (s e g : ℕ) → HasPeriod at s (e + g) g → 0 < g → s + g ≤ e → IsFull at s e → IsFull at s (e + g)
full_run at s e g again some room full i low lt none =
    ⊎_elim (λ before. full i low before none)
    (λ behind.
    let back : i - g + g ≡ i = omega (arith, behind, room) in
    full (i - g) (omega (arith, behind, room)) (omega (arith, lt, behind)) (again (i - g) (omega (arith, behind, room)) (omega (arith, back, lt)) ∙ ap at back ∙ none))
    (lt_or i e)
