-- Orders of texts, and when two texts are one.
use Rattle.std.proofs.Common.{◌≡◌, ◌≢◌, ◌⊎◌, inl, inr, ap, refl, ℕ, List, Bool, true, false, bytes_eq}
use Rattle.std.specs.FinMap as finite
use Rattle.std.specs.Cmp.Lexicographic.{slice_cmp}
use Rattle.std.specs.Ordering.{is_eq, is_lt, nat_cmp, ordering_reverse, ordering_then}
use Rattle.std.specs.Str.{IsUtf8, is_utf8}
use Rattle.std.specs.declared.cmp.Ordering.{Ordering}
use Rattle.std.specs.declared.cmp.Ordering.TheVariants.{Less, Equal, Greater}
use Rattle.std.proofs.lemmas.Bool.Decides.{not_from_Decides}
use Rattle.std.proofs.lemmas.Cmp.{nat_list_cmp_total, tied_itself}
use Rattle.std.proofs.lemmas.Slice.Eq.{bytes_eq-Decides}
use Rattle.std.proofs.lemmas.Str.{IsUtf8-from_is_utf8}
use Rattle.hwdb_spec.specs.Folders.{same}

-- ---- results of a comparison

pub equal_of : (o : Ordering) → is_eq o ≡ true → o ≡ Equal
equal_of Less h = cc
equal_of Equal h = refl
equal_of Greater h = cc

pub less_of : (o : Ordering) → is_lt o ≡ true → o ≡ Less
less_of Less h = refl
less_of Equal h = cc
less_of Greater h = cc

-- whether two are equal doesn't ask for their order
pub turned : (o : Ordering) → is_eq (ordering_reverse o) ≡ is_eq o
turned Less = refl
turned Equal = refl
turned Greater = refl

-- two that tie by two orders tie by each
pub then_equal : (a b : Ordering) → ordering_then a b ≡ Equal → (a ≡ Equal) × (b ≡ Equal)
then_equal Less b h = absurd (cc)
then_equal Equal b h = (refl, h)
then_equal Greater b h = absurd (cc)

-- ---- texts

pub equal_text : (xs ys : List ℕ) → slice_cmp nat_cmp xs ys ≡ Equal → xs ≡ ys
equal_text xs ys e = finite.slice_cmp-IsAntisymmetric finite.nat_cmp-IsAntisymmetric xs ys e

pub same_text : (xs ys : List ℕ) → same xs ys ≡ true → xs ≡ ys
same_text xs ys e = equal_text xs ys (equal_of (slice_cmp nat_cmp xs ys) e)

pub same_itself : (text : List ℕ) → same text text ≡ true
same_itself text = ap is_eq (tied_itself nat_list_cmp_total text)

-- two texts are one, or they aren't
pub one_or_two : (p q : List ℕ) → (p ≡ q) ⊎ (p ≢ q)
one_or_two p q = by (bytes_eq p q) refl
  where
    by : (b : Bool) → bytes_eq p q ≡ b → (p ≡ q) ⊎ (p ≢ q)
    by true e = inl ((bytes_eq-Decides p q).0 e)
    by false e = inr (not_from_Decides (bytes_eq p q) (bytes_eq-Decides p q) e)

-- a text that isn't UTF-8 is told so
pub not_utf8 : (text : List ℕ) → (IsUtf8 text → ⊥) → is_utf8 text ≡ false
not_utf8 text none = go (is_utf8 text) refl
  where
    go : (b : Bool) → is_utf8 text ≡ b → b ≡ false
    go true is = absurd (none (IsUtf8-from_is_utf8 text is))
    go false is = refl
