-- A text, or a space and a text.
use Rattle.std.proofs.Common.{◌≡◌, ◌∷◌, ◌≤◌, ◌-◌, ◌^◌, min, arith, ℕ, List, Bool, true, false, sym, ◌∙◌, ap, Ordering}
use Rattle.std.proofs.Math.Bool.{beq}
use Rattle.std.specs.Ordering.{nat_cmp, ordering_reverse}
use Rattle.std.specs.Cmp.Lexicographic.{slice_cmp, nat_list_cmp_total}
use Rattle.hwdb_writer.specs.Internal.Keyed.{spaced_text}

-- the order of a text, and a space and a text, by that of the other way round
pub turned_round : (spaced_a spaced_b : Bool) (text_a text_b a b : List ℕ) (turned r : Ordering) → beq spaced_a spaced_b ≡ false → spaced_a ≡ false
    → a ≡ spaced_text spaced_a text_a → b ≡ spaced_text spaced_b text_b → turned ≡ slice_cmp nat_cmp (32 ∷ text_b) text_a → r ≡ ordering_reverse turned → r ≡ slice_cmp nat_cmp a b
turned_round true spaced_b ta tb a b turned r other plain e f g h = absurd (cc)
turned_round false false ta tb a b turned r other plain e f g h = absurd (cc)
turned_round false true ta tb a b turned r other plain e f g h =
    h ∙ ap ordering_reverse g ∙ sym (nat_list_cmp_total.antisymm ta (32 ∷ tb)) ∙ ap (λ x. slice_cmp nat_cmp x (32 ∷ tb)) (sym e) ∙ ap (slice_cmp nat_cmp a) (sym f)

-- the order of two lengths that are short
pub short_lengths : (len_a len_b a b : ℕ) (r : Ordering) → len_a ≡ min a (2 ^ 64 - 1) → len_a ≤ 8 → len_b ≡ min b (2 ^ 64 - 1) → len_b ≤ 8 → r ≡ nat_cmp len_a len_b → r ≡ nat_cmp a b
short_lengths len_a len_b a b r e le f lf g =
    let same_a : len_a ≡ a = omega (arith, e, le) in
    let same_b : len_b ≡ b = omega (arith, f, lf) in
    g ∙ ap (λ n. nat_cmp n len_b) same_a ∙ ap (nat_cmp a) same_b

pub is_short : (len a : ℕ) → len ≡ min a (2 ^ 64 - 1) → len ≤ 8 → a ≤ 8
is_short len a e le = omega (arith, e, le)
