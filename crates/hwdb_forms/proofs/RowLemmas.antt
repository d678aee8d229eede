-- What a row knows, and that each step of the form keeps it.
use Rattle.std.proofs.Common.{◌≡◌, ℕ, Bool, true, false, IsTrue, List, [], ◌∷◌, refl, ◌⊎◌, inl, inr, ◌↔◌, suc, zero}
use Rattle.std.specs.Prelude.{if◌then◌else◌}
use Rattle.hwdb_spec.specs.Patterns.{Token, star, one, literal, bracket, admits_byte, Matches}
use Rattle.hwdb_spec.specs.declared.ByteSet.{ByteSet}
use Rattle.hwdb_spec.specs.declared.ByteSet.TheVariants.{Only}
use Rattle.hwdb_spec.specs.Forms.{Piece, Form, fixed, counted, repeated, is_in, is_star, meets, head, tail, byte_cell, byte_row, many_cell, many_row, fixed_row, counted_row, piece_row, pieces_row, either_row, none_row, end_row, field_row, fields_row, meets_form}
use Rattle.hwdb_forms.specs.Internal.{ByteThen, ManyThen, FixedThen, CountedThen, PieceThen, PiecesThen, FieldThen, Fields, Fits, IsMet, takes}
use Rattle.hwdb_forms.proofs.MeetLemmas.{either_true, first_true, second_true, both_first, both_second, both_true, meets_in, meets_out}
use Rattle.hwdb_pattern.specs.Lemmas.Matching.{single, single_admits, single_empty, single_rest, star_empty, star_more, star_nothing, star_step}

-- each cell of the row tells whether some text is met by the tokens from there on
abbrev pub Knows : (List ℕ → Type 0) → List Token → List Bool → Type 0
Knows Told [] row = IsTrue (head row) ↔ IsMet Told []
Knows Told (t ∷ ts) row = (IsTrue (head row) ↔ IsMet Told (t ∷ ts)) × Knows Told ts (tail row)

pub takes_single : (t : Token) (b : ℕ) → is_star t ≡ false → IsTrue (takes t b) → IsTrue (admits_byte t b)
takes_single star b s h = cc
takes_single one b s h = h
takes_single (literal own) b s h = h
takes_single (bracket class) b s h = h

pub single_takes : (t : Token) (b : ℕ) → is_star t ≡ false → IsTrue (admits_byte t b) → IsTrue (takes t b)
single_takes star b s h = cc
single_takes one b s h = h
single_takes (literal own) b s h = h
single_takes (bracket class) b s h = h

-- one byte
byte_end : (set : ByteSet) (Told : List ℕ → Type 0) → IsMet (ByteThen set Told) [] → ⊥
byte_end set Told m = no_text m.0 m.1 m.2
  where
    no_text : (text : List ℕ) → ByteThen set Told text → text ≡ [] → ⊥
    no_text [] f e = f
    no_text (b ∷ rest) f e = cc

byte_single_out : (set : ByteSet) (Told : List ℕ → Type 0) (t : Token) (ts : List Token) (text : List ℕ) → is_star t ≡ false → ByteThen set Told text → Matches (t ∷ ts) text → IsTrue (meets t set) × IsMet Told ts
byte_single_out set Told t ts [] s f m = absurd f
byte_single_out set Told t ts (b ∷ rest) s f m =
    (meets_in t set b f.0 (single_takes t b s (single_admits t ts b rest s m)), (rest, f.1, single_rest t ts b rest s m))

byte_single_in : (set : ByteSet) (Told : List ℕ → Type 0) (t : Token) (ts : List Token) → is_star t ≡ false → IsTrue (meets t set) → IsMet Told ts → IsMet (ByteThen set Told) (t ∷ ts)
byte_single_in set Told t ts s h m =
    let found : (b : ℕ) × IsTrue (is_in set b) × IsTrue (takes t b) = meets_out t set h in
    (found.0 ∷ m.0, (found.1, m.1), single t ts found.0 m.0 (takes_single t found.0 s found.2) m.2)

byte_star_out : (set : ByteSet) (Told : List ℕ → Type 0) (ts : List Token) (text : List ℕ) → ByteThen set Told text → Matches (star ∷ ts) text → IsMet (ByteThen set Told) ts ⊎ (IsTrue (meets star set) × IsMet Told (star ∷ ts))
byte_star_out set Told ts [] f m = absurd f
byte_star_out set Told ts (b ∷ rest) f m = elim (star_step ts b rest m) [
  | inl here ↦ inl (b ∷ rest, f, here)
  | inr later ↦ inr (meets_in star set b f.0 refl, (rest, f.1, later))
]

byte_star_pass : (set : ByteSet) (Told : List ℕ → Type 0) (ts : List Token) → IsMet Told ts → IsMet Told (star ∷ ts)
byte_star_pass set Told ts m = (m.0, m.1, star_nothing ts m.0 m.2)

byte_star_take : (set : ByteSet) (Told : List ℕ → Type 0) (ts : List Token) → IsTrue (meets star set) → IsMet Told (star ∷ ts) → IsMet (ByteThen set Told) (star ∷ ts)
byte_star_take set Told ts h m =
    let found : (b : ℕ) × IsTrue (is_in set b) × IsTrue (takes star b) = meets_out star set h in
    (found.0 ∷ m.0, (found.1, m.1), star_more ts found.0 m.0 m.2)

-- any number of bytes
pub many_none : (set : ByteSet) (Told : List ℕ → Type 0) (text : List ℕ) → Told text → ManyThen set Told text
many_none set Told [] h = h
many_none set Told (b ∷ rest) h = inl h

met_many : (set : ByteSet) (Told : List ℕ → Type 0) (ts : List Token) → IsMet Told ts → IsMet (ManyThen set Told) ts
met_many set Told ts m = (m.0, many_none set Told m.0 m.1, m.2)

many_end : (set : ByteSet) (Told : List ℕ → Type 0) (text : List ℕ) → ManyThen set Told text → text ≡ [] → IsMet Told []
many_end set Told [] f e = ([], f, refl)
many_end set Told (b ∷ rest) f e = cc

many_single_out : (set : ByteSet) (Told : List ℕ → Type 0) (t : Token) (ts : List Token) (text : List ℕ) → is_star t ≡ false → ManyThen set Told text → Matches (t ∷ ts) text → IsMet Told (t ∷ ts) ⊎ (IsTrue (meets t set) × IsMet (ManyThen set Told) ts)
many_single_out set Told t ts [] s f m = inl ([], f, m)
many_single_out set Told t ts (b ∷ rest) s f m = elim f [
  | inl here ↦ inl (b ∷ rest, here, m)
  | inr later ↦ inr (meets_in t set b later.0 (single_takes t b s (single_admits t ts b rest s m)), (rest, later.1, single_rest t ts b rest s m))
]

many_single_in : (set : ByteSet) (Told : List ℕ → Type 0) (t : Token) (ts : List Token) → is_star t ≡ false → IsTrue (meets t set) → IsMet (ManyThen set Told) ts → IsMet (ManyThen set Told) (t ∷ ts)
many_single_in set Told t ts s h m =
    let found : (b : ℕ) × IsTrue (is_in set b) × IsTrue (takes t b) = meets_out t set h in
    (found.0 ∷ m.0, inr (found.1, m.1), single t ts found.0 m.0 (takes_single t found.0 s found.2) m.2)

many_star_out : (set : ByteSet) (Told : List ℕ → Type 0) (ts : List Token) (text : List ℕ) → ManyThen set Told text → Matches (star ∷ ts) text → IsMet Told (star ∷ ts) ⊎ IsMet (ManyThen set Told) ts
many_star_out set Told ts [] f m = inl ([], f, m)
many_star_out set Told ts (b ∷ rest) f m = elim f [
  | inl here ↦ inl (b ∷ rest, here, m)
  | inr later ↦ elim (star_step ts b rest m) [
    | inl passed ↦ inr (b ∷ rest, inr later, passed)
    | inr taken ↦ many_star_out set Told ts rest later.1 taken
  ]
]

-- the first cell
pub first_cell : (Told : List ℕ → Type 0) (ts : List Token) (row : List Bool) → Knows Told ts row → IsTrue (head row) ↔ IsMet Told ts
first_cell Told [] row k = k
first_cell Told (t ∷ ts) row k = k.0

-- the cells, one by one
byte_cell_single : (set : ByteSet) (Told : List ℕ → Type 0) (t : Token) (ts : List Token) (behind : Bool) → is_star t ≡ false → IsTrue behind ↔ IsMet Told ts → IsTrue (if meets t set then behind else false) ↔ IsMet (ByteThen set Told) (t ∷ ts)
byte_cell_single set Told t ts behind s k = (
  λ h. byte_single_in set Told t ts s (both_first (meets t set) behind h) (k.0 (both_second (meets t set) behind h)),
  λ m. let out : IsTrue (meets t set) × IsMet Told ts = byte_single_out set Told t ts m.0 s m.1 m.2 in both_true (meets t set) behind out.0 (k.1 out.1),
)

byte_cell_star : (set : ByteSet) (Told : List ℕ → Type 0) (ts : List Token) (here next : Bool) → IsTrue here ↔ IsMet Told (star ∷ ts) → IsTrue next ↔ IsMet (ByteThen set Told) ts → IsTrue (if next then true else (if meets star set then here else false)) ↔ IsMet (ByteThen set Told) (star ∷ ts)
byte_cell_star set Told ts here next k n = (
  λ h. elim (either_true next (if meets star set then here else false) h) [
    | inl passed ↦ byte_star_pass set (ByteThen set Told) ts (n.0 passed)
    | inr taken ↦ byte_star_take set Told ts (both_first (meets star set) here taken) (k.0 (both_second (meets star set) here taken))
  ],
  λ m. elim (byte_star_out set Told ts m.0 m.1 m.2) [
    | inl passed ↦ first_true next (if meets star set then here else false) (n.1 passed)
    | inr taken ↦ second_true next (if meets star set then here else false) (both_true (meets star set) here taken.0 (k.1 taken.1))
  ],
)

many_cell_single : (set : ByteSet) (Told : List ℕ → Type 0) (t : Token) (ts : List Token) (here next : Bool) → is_star t ≡ false → IsTrue here ↔ IsMet Told (t ∷ ts) → IsTrue next ↔ IsMet (ManyThen set Told) ts → IsTrue (if here then true else (if meets t set then next else false)) ↔ IsMet (ManyThen set Told) (t ∷ ts)
many_cell_single set Told t ts here next s k n = (
  λ h. elim (either_true here (if meets t set then next else false) h) [
    | inl passed ↦ met_many set Told (t ∷ ts) (k.0 passed)
    | inr taken ↦ many_single_in set Told t ts s (both_first (meets t set) next taken) (n.0 (both_second (meets t set) next taken))
  ],
  λ m. elim (many_single_out set Told t ts m.0 s m.1 m.2) [
    | inl passed ↦ first_true here (if meets t set then next else false) (k.1 passed)
    | inr taken ↦ second_true here (if meets t set then next else false) (both_true (meets t set) next taken.0 (n.1 taken.1))
  ],
)

many_cell_star : (set : ByteSet) (Told : List ℕ → Type 0) (ts : List Token) (here next : Bool) → IsTrue here ↔ IsMet Told (star ∷ ts) → IsTrue next ↔ IsMet (ManyThen set Told) ts → IsTrue (if here then true else next) ↔ IsMet (ManyThen set Told) (star ∷ ts)
many_cell_star set Told ts here next k n = (
  λ h. elim (either_true here next h) [
    | inl passed ↦ met_many set Told (star ∷ ts) (k.0 passed)
    | inr taken ↦ byte_star_pass set (ManyThen set Told) ts (n.0 taken)
  ],
  λ m. elim (many_star_out set Told ts m.0 m.1 m.2) [
    | inl passed ↦ first_true here next (k.1 passed)
    | inr taken ↦ second_true here next (n.1 taken)
  ],
)

byte_cell_known : (set : ByteSet) (Told : List ℕ → Type 0) (t : Token) (ts : List Token) (here behind next : Bool) → IsTrue here ↔ IsMet Told (t ∷ ts) → IsTrue behind ↔ IsMet Told ts → IsTrue next ↔ IsMet (ByteThen set Told) ts → IsTrue (byte_cell (is_star t) (meets t set) here behind next) ↔ IsMet (ByteThen set Told) (t ∷ ts)
byte_cell_known set Told star ts here behind next k b n = byte_cell_star set Told ts here next k n
byte_cell_known set Told one ts here behind next k b n = byte_cell_single set Told one ts behind refl b
byte_cell_known set Told (literal own) ts here behind next k b n = byte_cell_single set Told (literal own) ts behind refl b
byte_cell_known set Told (bracket class) ts here behind next k b n = byte_cell_single set Told (bracket class) ts behind refl b

many_cell_known : (set : ByteSet) (Told : List ℕ → Type 0) (t : Token) (ts : List Token) (here next : Bool) → IsTrue here ↔ IsMet Told (t ∷ ts) → IsTrue next ↔ IsMet (ManyThen set Told) ts → IsTrue (many_cell (is_star t) (meets t set) here next) ↔ IsMet (ManyThen set Told) (t ∷ ts)
many_cell_known set Told star ts here next k n = many_cell_star set Told ts here next k n
many_cell_known set Told one ts here next k n = many_cell_single set Told one ts here next refl k n
many_cell_known set Told (literal own) ts here next k n = many_cell_single set Told (literal own) ts here next refl k n
many_cell_known set Told (bracket class) ts here next k n = many_cell_single set Told (bracket class) ts here next refl k n

-- the rows
byte_known : (set : ByteSet) (Told : List ℕ → Type 0) (ts : List Token) (row : List Bool) → Knows Told ts row → Knows (ByteThen set Told) ts (byte_row set ts row)
unfolding byte_row
byte_known set Told [] row k = (λ h. cc, λ m. absurd (byte_end set Told m))
byte_known set Told (t ∷ ts) row k =
    let more : Knows (ByteThen set Told) ts (byte_row set ts (tail row)) = byte_known set Told ts (tail row) k.1 in (
      byte_cell_known set Told t ts (head row) (head (tail row)) (head (byte_row set ts (tail row))) k.0 (first_cell Told ts (tail row) k.1)
          (first_cell (ByteThen set Told) ts (byte_row set ts (tail row)) more),
      more,
    )

many_known : (set : ByteSet) (Told : List ℕ → Type 0) (ts : List Token) (row : List Bool) → Knows Told ts row → Knows (ManyThen set Told) ts (many_row set ts row)
unfolding many_row
many_known set Told [] row k = (λ h. met_many set Told [] (k.0 h), λ m. k.1 (many_end set Told m.0 m.1 m.2))
many_known set Told (t ∷ ts) row k =
    let more : Knows (ManyThen set Told) ts (many_row set ts (tail row)) = many_known set Told ts (tail row) k.1 in (
      many_cell_known set Told t ts (head row) (head (many_row set ts (tail row))) k.0
          (first_cell (ManyThen set Told) ts (many_row set ts (tail row)) more),
      more,
    )

fixed_known : (own : List ℕ) (Told : List ℕ → Type 0) (ts : List Token) (row : List Bool) → Knows Told ts row → Knows (FixedThen own Told) ts (fixed_row own ts row)
unfolding fixed_row
fixed_known [] Told ts row k = k
fixed_known (b ∷ more) Told ts row k = byte_known (Only b) (FixedThen more Told) ts (fixed_row more ts row) (fixed_known more Told ts row k)

counted_known : (set : ByteSet) (n : ℕ) (Told : List ℕ → Type 0) (ts : List Token) (row : List Bool) → Knows Told ts row → Knows (CountedThen set n Told) ts (counted_row set n ts row)
unfolding counted_row
counted_known set zero Told ts row k = k
counted_known set (suc n) Told ts row k = byte_known set (CountedThen set n Told) ts (counted_row set n ts row) (counted_known set n Told ts row k)

piece_known : (piece : Piece) (Told : List ℕ → Type 0) (ts : List Token) (row : List Bool) → Knows Told ts row → Knows (PieceThen piece Told) ts (piece_row piece ts row)
piece_known (fixed own) Told ts row k = fixed_known own Told ts row k
piece_known (counted set n) Told ts row k = counted_known set n Told ts row k
piece_known (repeated set) Told ts row k = many_known set Told ts row k

pieces_known : (pieces : List Piece) (Told : List ℕ → Type 0) (ts : List Token) (row : List Bool) → Knows Told ts row → Knows (PiecesThen pieces Told) ts (pieces_row pieces ts row)
unfolding pieces_row
pieces_known [] Told ts row k = k
pieces_known (piece ∷ more) Told ts row k = piece_known piece (PiecesThen more Told) ts (pieces_row more ts row) (pieces_known more Told ts row k)

either_cell : (One Other : List ℕ → Type 0) (ts : List Token) (left other : Bool) → IsTrue left ↔ IsMet One ts → IsTrue other ↔ IsMet Other ts → IsTrue (if left then true else other) ↔ IsMet (λ text. One text ⊎ Other text) ts
either_cell One Other ts left other k o = (
  λ h. elim (either_true left other h) [
    | inl here ↦ let m : IsMet One ts = k.0 here in (m.0, inl m.1, m.2)
    | inr there ↦ let m : IsMet Other ts = o.0 there in (m.0, inr m.1, m.2)
  ],
  λ m. elim m.1 [
    | inl here ↦ first_true left other (k.1 (m.0, here, m.2))
    | inr there ↦ second_true left other (o.1 (m.0, there, m.2))
  ],
)

either_known : (One Other : List ℕ → Type 0) (ts : List Token) (left other : List Bool) → Knows One ts left → Knows Other ts other → Knows (λ text. One text ⊎ Other text) ts (either_row ts left other)
unfolding either_row
either_known One Other [] left other k o = either_cell One Other [] (head left) (head other) k o
either_known One Other (t ∷ ts) left other k o =
    (either_cell One Other (t ∷ ts) (head left) (head other) k.0 o.0, either_known One Other ts (tail left) (tail other) k.1 o.1)

none_known : (ts : List Token) → Knows (λ text. ⊥) ts (none_row ts)
unfolding none_row
none_known [] = (λ h. cc, λ m. absurd m.1)
none_known (t ∷ ts) = ((λ h. cc, λ m. absurd m.1), none_known ts)

field_known : (field : List (List Piece)) (Told : List ℕ → Type 0) (ts : List Token) (row : List Bool) → Knows Told ts row → Knows (FieldThen field Told) ts (field_row field ts row)
unfolding field_row
field_known [] Told ts row k = none_known ts
field_known (way ∷ more) Told ts row k =
    either_known (PiecesThen way Told) (FieldThen more Told) ts (pieces_row way ts row) (field_row more ts row)
    (pieces_known way Told ts row k) (field_known more Told ts row k)

-- the end of the text
end_single : (t : Token) (ts : List Token) (text : List ℕ) → is_star t ≡ false → text ≡ [] → Matches (t ∷ ts) text → ⊥
end_single t ts [] s e m = single_empty t ts s m
end_single t ts (b ∷ rest) s e m = cc

end_star : (ts : List Token) (text : List ℕ) → text ≡ [] → Matches (star ∷ ts) text → Matches ts []
end_star ts [] e m = star_empty ts m
end_star ts (b ∷ rest) e m = cc

end_cell : (t : Token) (ts : List Token) (next : Bool) → IsTrue next ↔ IsMet (λ text. text ≡ []) ts → IsTrue (if is_star t then next else false) ↔ IsMet (λ text. text ≡ []) (t ∷ ts)
end_cell star ts next k =
    (λ h. byte_star_pass (Only 0) (λ text. text ≡ []) ts (k.0 h), λ m. k.1 ([], refl, end_star ts m.0 m.1 m.2))
end_cell one ts next k = (λ h. cc, λ m. absurd (end_single one ts m.0 refl m.1 m.2))
end_cell (literal own) ts next k = (λ h. cc, λ m. absurd (end_single (literal own) ts m.0 refl m.1 m.2))
end_cell (bracket class) ts next k = (λ h. cc, λ m. absurd (end_single (bracket class) ts m.0 refl m.1 m.2))

end_known : (ts : List Token) → Knows (λ text. text ≡ []) ts (end_row ts)
unfolding end_row
end_known [] = (λ h. ([], refl, refl), λ m. refl)
end_known (t ∷ ts) =
    (end_cell t ts (head (end_row ts)) (first_cell (λ text. text ≡ []) ts (end_row ts) (end_known ts)), end_known ts)

fields_known : (fields : List (List (List Piece))) (ts : List Token) → Knows (Fields fields) ts (fields_row fields ts)
unfolding fields_row
fields_known [] ts = end_known ts
fields_known (field ∷ more) ts = field_known field (Fields more) ts (fields_row more ts) (fields_known more ts)

-- The first cell of the form's row tells whether some text both fits and is matched.
pub form_met : (form : Form) (ts : List Token) → IsTrue (meets_form ts form) ↔ IsMet (Fits form) ts
form_met form ts =
    first_cell (Fits form) ts (fixed_row form.prefix ts (fields_row form.fields ts))
    (fixed_known form.prefix (Fields form.fields) ts (fields_row form.fields ts) (fields_known form.fields ts))
