-- Each example has its form, by a test that computes: a text goes through the form from the left to the right.
use Rattle.std.proofs.Common.{◌≡◌, ℕ, Bool, true, false, IsTrue, List, [], ◌∷◌, refl, inl, inr, suc, zero}
use Rattle.std.specs.Prelude.{if◌then◌else◌}
use Rattle.hwdb_spec.specs.declared.ByteSet.{ByteSet}
use Rattle.hwdb_spec.specs.declared.ByteSet.TheVariants.{Only}
use Rattle.hwdb_spec.specs.Forms.{Piece, Form, fixed, counted, repeated, is_in, HasForm}
use Rattle.hwdb_spec_commands.specs.FormTable.{Known, known}
use Rattle.hwdb_spec_commands.specs.LikelyForms.{narrow}
use Rattle.hwdb_forms.specs.Internal.{ByteThen, ManyThen, FixedThen, CountedThen, PieceThen, PiecesThen, FieldThen, Fields}
use Rattle.hwdb_forms.specs.Laws.{EachFits}
use Rattle.hwdb_forms.proofs.MeetLemmas.{either_true, both_first, both_second}
use Rattle.hwdb_forms.proofs.ReadLemmas.{form_out}

unfoldable byte_then : ByteSet → (List ℕ → Bool) → List ℕ → Bool
byte_then set behind [] = false
byte_then set behind (b ∷ rest) = if is_in set b then behind rest else false

unfoldable many_then : ByteSet → (List ℕ → Bool) → List ℕ → Bool
many_then set behind [] = behind []
many_then set behind (b ∷ rest) = if behind (b ∷ rest) then true else (if is_in set b then many_then set behind rest else false)

unfoldable fixed_then : List ℕ → (List ℕ → Bool) → List ℕ → Bool
fixed_then [] behind text = behind text
fixed_then (own ∷ more) behind text = byte_then (Only own) (fixed_then more behind) text

unfoldable counted_then : ByteSet → ℕ → (List ℕ → Bool) → List ℕ → Bool
counted_then set zero behind text = behind text
counted_then set (suc n) behind text = byte_then set (counted_then set n behind) text

unfoldable piece_then : Piece → (List ℕ → Bool) → List ℕ → Bool
piece_then (fixed bytes) behind text = fixed_then bytes behind text
piece_then (counted set n) behind text = counted_then set n behind text
piece_then (repeated set) behind text = many_then set behind text

unfoldable pieces_then : List Piece → (List ℕ → Bool) → List ℕ → Bool
pieces_then [] behind text = behind text
pieces_then (piece ∷ more) behind text = piece_then piece (pieces_then more behind) text

unfoldable field_then : List (List Piece) → (List ℕ → Bool) → List ℕ → Bool
field_then [] behind text = false
field_then (way ∷ more) behind text = if pieces_then way behind text then true else field_then more behind text

unfoldable at_end : List ℕ → Bool
at_end [] = true
at_end (b ∷ rest) = false

unfoldable fields_fit : List (List (List Piece)) → List ℕ → Bool
fields_fit [] text = at_end text
fields_fit (field ∷ more) text = field_then field (fields_fit more) text

unfoldable form_fits : Form → List ℕ → Bool
form_fits form text = fixed_then form.prefix (fields_fit form.fields) text

unfoldable all_fit : List Known → Bool
all_fit [] = true
all_fit (k ∷ more) = if form_fits k.form k.example then all_fit more else false

-- what the test tells is so
abbrev pub Tells : (List ℕ → Bool) → (List ℕ → Type 0) → Type 0
Tells behind Behind = (text : List ℕ) → IsTrue (behind text) → Behind text

byte_tells : (set : ByteSet) (behind : List ℕ → Bool) (Behind : List ℕ → Type 0) → Tells behind Behind → Tells (byte_then set behind) (ByteThen set Behind)
unfolding byte_then
byte_tells set behind Behind k [] h = cc
byte_tells set behind Behind k (b ∷ rest) h = (both_first (is_in set b) (behind rest) h, k rest (both_second (is_in set b) (behind rest) h))

many_tells : (set : ByteSet) (behind : List ℕ → Bool) (Behind : List ℕ → Type 0) → Tells behind Behind → Tells (many_then set behind) (ManyThen set Behind)
unfolding many_then
many_tells set behind Behind k [] h = k [] h
many_tells set behind Behind k (b ∷ rest) h = elim (either_true (behind (b ∷ rest)) (if is_in set b then many_then set behind rest else false) h) [
  | inl here ↦ inl (k (b ∷ rest) here)
  | inr later ↦ inr (both_first (is_in set b) (many_then set behind rest) later, many_tells set behind Behind k rest (both_second (is_in set b) (many_then set behind rest) later))
]

fixed_tells : (own : List ℕ) (behind : List ℕ → Bool) (Behind : List ℕ → Type 0) → Tells behind Behind → Tells (fixed_then own behind) (FixedThen own Behind)
unfolding fixed_then
fixed_tells [] behind Behind k text h = k text h
fixed_tells (b ∷ own) behind Behind k text h = byte_tells (Only b) (fixed_then own behind) (FixedThen own Behind) (fixed_tells own behind Behind k) text h

counted_tells : (set : ByteSet) (n : ℕ) (behind : List ℕ → Bool) (Behind : List ℕ → Type 0) → Tells behind Behind → Tells (counted_then set n behind) (CountedThen set n Behind)
unfolding counted_then
counted_tells set zero behind Behind k text h = k text h
counted_tells set (suc n) behind Behind k text h = byte_tells set (counted_then set n behind) (CountedThen set n Behind) (counted_tells set n behind Behind k) text h

piece_tells : (piece : Piece) (behind : List ℕ → Bool) (Behind : List ℕ → Type 0) → Tells behind Behind → Tells (piece_then piece behind) (PieceThen piece Behind)
unfolding piece_then
piece_tells (fixed own) behind Behind k text h = fixed_tells own behind Behind k text h
piece_tells (counted set n) behind Behind k text h = counted_tells set n behind Behind k text h
piece_tells (repeated set) behind Behind k text h = many_tells set behind Behind k text h

pieces_tell : (pieces : List Piece) (behind : List ℕ → Bool) (Behind : List ℕ → Type 0) → Tells behind Behind → Tells (pieces_then pieces behind) (PiecesThen pieces Behind)
unfolding pieces_then
pieces_tell [] behind Behind k text h = k text h
pieces_tell (piece ∷ more) behind Behind k text h =
    piece_tells piece (pieces_then more behind) (PiecesThen more Behind) (pieces_tell more behind Behind k) text h

field_tells : (field : List (List Piece)) (behind : List ℕ → Bool) (Behind : List ℕ → Type 0) → Tells behind Behind → Tells (field_then field behind) (FieldThen field Behind)
unfolding field_then
field_tells [] behind Behind k text h = cc
field_tells (way ∷ more) behind Behind k text h = elim (either_true (pieces_then way behind text) (field_then more behind text) h) [
  | inl here ↦ inl (pieces_tell way behind Behind k text here)
  | inr later ↦ inr (field_tells more behind Behind k text later)
]

end_tells : Tells at_end (λ text. text ≡ [])
unfolding at_end
end_tells [] h = refl
end_tells (b ∷ rest) h = cc

fields_tell : (fields : List (List (List Piece))) → Tells (fields_fit fields) (Fields fields)
unfolding fields_fit
fields_tell [] text h = end_tells text h
fields_tell (field ∷ more) text h = field_tells field (fields_fit more) (Fields more) (fields_tell more) text h

form_tells : (form : Form) (text : List ℕ) → IsTrue (form_fits form text) → HasForm form text
unfolding form_fits
form_tells form text h = form_out form text (fixed_tells form.prefix (fields_fit form.fields) (Fields form.fields) (fields_tell form.fields) text h)

each_fits : (ks : List Known) → IsTrue (all_fit ks) → EachFits ks
unfolding all_fit
each_fits [] h = tt
each_fits (k ∷ more) h =
    (form_tells k.form k.example (both_first (form_fits k.form k.example) (all_fit more) h), each_fits more (both_second (form_fits k.form k.example) (all_fit more) h))

pub known_fit : EachFits known
unfolding known all_fit form_fits fields_fit at_end field_then pieces_then piece_then counted_then fixed_then many_then byte_then
known_fit = each_fits known refl

pub narrow_fit : EachFits narrow
unfolding narrow all_fit form_fits fields_fit at_end field_then pieces_then piece_then counted_then fixed_then many_then byte_then
narrow_fit = each_fits narrow refl
