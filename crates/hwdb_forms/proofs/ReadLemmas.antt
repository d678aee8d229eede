-- The form that computes and the one for a reader are the same.
use Rattle.std.proofs.Common.{◌≡◌, ℕ, List, [], ◌∷◌, ◌++◌, refl, sym, ap, subst, ◌∙◌, inl, inr, append_assoc, length, suc, zero, arith}
use Rattle.hwdb_spec.specs.declared.ByteSet.{ByteSet}
use Rattle.hwdb_spec.specs.Forms.{Piece, Form, fixed, counted, repeated, AllIn, HasPiece, HasPieces, HasField, HasFields, HasForm}
use Rattle.hwdb_forms.specs.Internal.{ManyThen, FixedThen, CountedThen, PieceThen, PiecesThen, FieldThen, Fields, Fits}
use Rattle.hwdb_forms.proofs.MeetLemmas.{own_in, own_span}

-- a text in two parts: one that is such, and one that is told
abbrev pub Then : (List ℕ → Type 0) → (List ℕ → Type 0) → List ℕ → Type 0
Then Such Told text = (part : List ℕ) × (rest : List ℕ) × (text ≡ part ++ rest) × Such part × Told rest

many_out : (set : ByteSet) (Told : List ℕ → Type 0) (text : List ℕ) → ManyThen set Told text → Then (AllIn set) Told text
many_out set Told [] f = ([], [], refl, tt, f)
many_out set Told (b ∷ rest) f = elim f [
  | inl here ↦ ([], b ∷ rest, refl, tt, here)
  | inr later ↦ let more : Then (AllIn set) Told rest = many_out set Told rest later.1 in
      (b ∷ more.0, more.1, ap (λ r. b ∷ r) more.2, (later.0, more.3), more.4)
]

many_begin : (set : ByteSet) (Told : List ℕ → Type 0) (text : List ℕ) → Told text → ManyThen set Told text
many_begin set Told [] h = h
many_begin set Told (b ∷ rest) h = inl h

many_in : (set : ByteSet) (Told : List ℕ → Type 0) (part rest : List ℕ) → AllIn set part → Told rest → ManyThen set Told (part ++ rest)
many_in set Told [] rest a h = many_begin set Told rest h
many_in set Told (b ∷ part) rest a h = inr (a.0, many_in set Told part rest a.1 h)

-- these bytes
pub fixed_out : (own : List ℕ) (Told : List ℕ → Type 0) (text : List ℕ) → FixedThen own Told text → (rest : List ℕ) × (text ≡ own ++ rest) × Told rest
fixed_out [] Told text f = (text, refl, f)
fixed_out (b ∷ own) Told [] f = absurd f
fixed_out (b ∷ own) Told (x ∷ text) f =
    let more : (rest : List ℕ) × (text ≡ own ++ rest) × Told rest = fixed_out own Told text f.1 in
    let same : x ≡ b = own_span x b f.0 in
    (more.0, ap (λ y. y ∷ text) same ∙ ap (λ r. b ∷ r) more.1, more.2)

pub fixed_in : (own : List ℕ) (Told : List ℕ → Type 0) (rest : List ℕ) → Told rest → FixedThen own Told (own ++ rest)
fixed_in [] Told rest h = h
fixed_in (b ∷ own) Told rest h = (own_in b, fixed_in own Told rest h)

-- so many bytes
counted_out : (set : ByteSet) (n : ℕ) (Told : List ℕ → Type 0) (text : List ℕ) → CountedThen set n Told text → Then (λ part. (length part ≡ n) × AllIn set part) Told text
counted_out set zero Told text f = ([], text, refl, (refl, tt), f)
counted_out set (suc n) Told [] f = absurd f
counted_out set (suc n) Told (b ∷ text) f =
    let more : Then (λ part. (length part ≡ n) × AllIn set part) Told text = counted_out set n Told text f.1 in
    (b ∷ more.0, more.1, ap (λ r. b ∷ r) more.2, (ap suc more.3.0, (f.0, more.3.1)), more.4)

counted_in : (set : ByteSet) (n : ℕ) (Told : List ℕ → Type 0) (part rest : List ℕ) → length part ≡ n → AllIn set part → Told rest → CountedThen set n Told (part ++ rest)
counted_in set zero Told [] rest l a h = h
counted_in set zero Told (b ∷ part) rest l a h = absurd (omega (arith, l))
counted_in set (suc n) Told [] rest l a h = absurd (omega (arith, l))
counted_in set (suc n) Told (b ∷ part) rest l a h = (a.0, counted_in set n Told part rest (omega (arith, l)) a.1 h)

piece_out : (p : Piece) (Told : List ℕ → Type 0) (text : List ℕ) → PieceThen p Told text → Then (HasPiece p) Told text
piece_out (fixed own) Told text f =
    let a : (rest : List ℕ) × (text ≡ own ++ rest) × Told rest = fixed_out own Told text f in (own, a.0, a.1, refl, a.2)
piece_out (counted set n) Told text f = counted_out set n Told text f
piece_out (repeated set) Told text f = many_out set Told text f

piece_in : (p : Piece) (Told : List ℕ → Type 0) (part rest : List ℕ) → HasPiece p part → Told rest → PieceThen p Told (part ++ rest)
piece_in (fixed own) Told part rest a h =
    subst (λ (x : List ℕ). FixedThen own Told (x ++ rest)) (sym a) (fixed_in own Told rest h)
piece_in (counted set n) Told part rest a h = counted_in set n Told part rest a.0 a.1 h
piece_in (repeated set) Told part rest a h = many_in set Told part rest a h

pieces_out : (ps : List Piece) (Told : List ℕ → Type 0) (text : List ℕ) → PiecesThen ps Told text → Then (HasPieces ps) Told text
pieces_out [] Told text f = ([], text, refl, refl, f)
pieces_out (p ∷ more) Told text f =
    let a : Then (HasPiece p) (PiecesThen more Told) text = piece_out p (PiecesThen more Told) text f in
    let b : Then (HasPieces more) Told a.1 = pieces_out more Told a.1 a.4 in
    (a.0 ++ b.0, b.1, a.2 ∙ ap (λ r. a.0 ++ r) b.2 ∙ sym (append_assoc a.0 b.0 b.1), (a.0, b.0, refl, a.3, b.3), b.4)

pieces_in : (ps : List Piece) (Told : List ℕ → Type 0) (part rest : List ℕ) → HasPieces ps part → Told rest → PiecesThen ps Told (part ++ rest)
pieces_in [] Told part rest a h = subst (λ (x : List ℕ). Told (x ++ rest)) (sym a) h
pieces_in (p ∷ more) Told part rest a h =
    subst (λ (x : List ℕ). PieceThen p (PiecesThen more Told) x) (sym (ap (λ x. x ++ rest) a.2 ∙ append_assoc a.0 a.1 rest))
    (piece_in p (PiecesThen more Told) a.0 (a.1 ++ rest) a.3 (pieces_in more Told a.1 rest a.4 h))

field_out : (ways : List (List Piece)) (Told : List ℕ → Type 0) (text : List ℕ) → FieldThen ways Told text → Then (HasField ways) Told text
field_out [] Told text f = absurd f
field_out (way ∷ more) Told text f = elim f [
  | inl here ↦ let a : Then (HasPieces way) Told text = pieces_out way Told text here in (a.0, a.1, a.2, inl a.3, a.4)
  | inr later ↦ let a : Then (HasField more) Told text = field_out more Told text later in (a.0, a.1, a.2, inr a.3, a.4)
]

field_in : (ways : List (List Piece)) (Told : List ℕ → Type 0) (part rest : List ℕ) → HasField ways part → Told rest → FieldThen ways Told (part ++ rest)
field_in [] Told part rest a h = absurd a
field_in (way ∷ more) Told part rest a h = elim a [
  | inl here ↦ inl (pieces_in way Told part rest here h)
  | inr later ↦ inr (field_in more Told part rest later h)
]

fields_out : (fields : List (List (List Piece))) (text : List ℕ) → Fields fields text → HasFields fields text
fields_out [] text f = f
fields_out (field ∷ more) text f =
    let a : Then (HasField field) (Fields more) text = field_out field (Fields more) text f in (a.0, a.1, a.2, a.3, fields_out more a.1 a.4)

fields_in : (fields : List (List (List Piece))) (text : List ℕ) → HasFields fields text → Fields fields text
fields_in [] text a = a
fields_in (field ∷ more) text a =
    subst (λ (x : List ℕ). Fields (field ∷ more) x) (sym a.2) (field_in field (Fields more) a.0 a.1 a.3 (fields_in more a.1 a.4))

pub form_out : (form : Form) (text : List ℕ) → Fits form text → HasForm form text
form_out form text f =
    let a : (rest : List ℕ) × (text ≡ form.prefix ++ rest) × Fields form.fields rest = fixed_out form.prefix (Fields form.fields) text f in
    (a.0, a.1, fields_out form.fields a.0 a.2)

pub form_in : (form : Form) (text : List ℕ) → HasForm form text → Fits form text
form_in form text a =
    subst (λ (x : List ℕ). Fits form x) (sym a.1) (fixed_in form.prefix (Fields form.fields) a.0 (fields_in form.fields a.0 a.2))
