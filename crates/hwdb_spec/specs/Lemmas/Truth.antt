-- What is so of one or of both of two.
use Rattle.std.proofs.Common.{◌≡◌, ◌∙◌, Bool, true, false, cond, refl, ◌||◌}

pub or_left : (a b : Bool) → a ≡ true → (a || b) ≡ true
or_left true b e = refl
or_left false b e = cc

pub or_right : (a b : Bool) → b ≡ true → (a || b) ≡ true
or_right true b e = refl
or_right false b e = e

pub or_neither : (a b : Bool) → (a || b) ≡ false → (a ≡ false) × (b ≡ false)
or_neither true b e = absurd (cc)
or_neither false b e = (refl, e)

pub neither_or : (a b : Bool) → a ≡ false → b ≡ false → (a || b) ≡ false
neither_or true b e f = absurd (cc)
neither_or false b e f = f

pub or_assoc : (a b c : Bool) → (a || (b || c)) ≡ ((a || b) || c)
or_assoc true b c = refl
or_assoc false b c = refl

or_false : (b : Bool) → b ≡ (b || false)
or_false true = refl
or_false false = refl

or_true : (b : Bool) → true ≡ (b || true)
or_true true = refl
or_true false = refl

-- one more of some, of which one is so
pub or_one_more : (c : Bool) (a b : Bool) → a ≡ b → cond c true a ≡ (b || (c || false))
or_one_more true a b e = or_true b
or_one_more false a b e = e ∙ or_false b
