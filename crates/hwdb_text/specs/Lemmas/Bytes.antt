-- Whether a byte is in a text, by the place of its first.
use Rattle.std.proofs.Common.{◌≡◌, ℕ, suc, ◌+◌, Bool, true, false, not, List, [], ◌∷◌, length, refl, cond, arith, ◌||◌}
use Rattle.std.specs.List.{position_or_len}
use Rattle.hwdb_spec.specs.Lines.{has, is}

has_none_by : (t : Bool) (n k : ℕ) (r : Bool) → cond (not t) (1 + n) 0 ≡ suc k → (n ≡ k → r ≡ false) → (t || r) ≡ false
has_none_by true n k r e f = absurd (omega arith)
has_none_by false n k r e f = f (omega arith)

has_some_by : (t : Bool) (n k : ℕ) (r : Bool) → (cond (not t) (1 + n) 0 ≡ suc k → ⊥) → ((n ≡ k → ⊥) → r ≡ true) → (t || r) ≡ true
has_some_by true n k r e f = refl
has_some_by false n k r e f = f (λ q. e (omega arith))

pub has_none : (b : ℕ) (text : List ℕ) → position_or_len (is b) text ≡ length text → has b text ≡ false
has_none b [] e = refl
has_none b (x ∷ xs) e = has_none_by (is b x) (position_or_len (is b) xs) (length xs) (has b xs) e (has_none b xs)

pub has_some : (b : ℕ) (text : List ℕ) → (position_or_len (is b) text ≡ length text → ⊥) → has b text ≡ true
has_some b [] e = absurd (e refl)
has_some b (x ∷ xs) e = has_some_by (is b x) (position_or_len (is b) xs) (length xs) (has b xs) e (has_some b xs)
