-- Each text of a narrower form is one of the forms that are asked.
use Rattle.std.proofs.Common.{◌≡◌, ℕ, ◌≤◌, Bool, true, false, IsTrue, List, [], ◌∷◌, ◌++◌, ◌⊎◌, refl, subst, sym, inl, inr, arith, codes, drop, map, nat_le, suc, take, zero}
use Rattle.std.proofs.lemmas.Bool.{le-leb, leb-true}
use Rattle.std.specs.List.{list_any}
use Rattle.std.specs.Prelude.{if◌then◌else◌}
use Rattle.hwdb_spec.specs.Patterns.{in_span}
use Rattle.hwdb_spec.specs.declared.ByteSet.{ByteSet}
use Rattle.hwdb_spec.specs.declared.ByteSet.TheVariants.{Dmi, DmiLeft, HexOrBlank, Left, LeftButColon, LowerHex, Name, Only, UpperHex}
use Rattle.hwdb_spec.specs.Forms.{Form, HasForm, HasOneOf, Piece, counted, fixed, is_in, judged, repeated, set_spans}
use Rattle.hwdb_spec_commands.specs.FormTable.{always, asked, dmi_field, dmi_fields, free, free_prefixes, input_pieces, known, name_field, optional, pair}
use Rattle.hwdb_spec_commands.specs.FormTable
use Rattle.hwdb_spec_commands.specs.LikelyForms.{case_fields, kept, likely, likely_name, likely_place, machine_after, machine_fields, machine_pieces, more_ids, name_part, narrow, on_it, place_part, release_pieces}
use Rattle.hwdb_spec_commands.specs.LikelyForms
use Rattle.hwdb_forms.specs.Internal.{ByteThen, CountedThen, Every, FieldThen, Fields, Fits, FixedThen, ManyThen, PieceThen, PiecesThen}
use Rattle.hwdb_forms.specs.Laws.{LikelyTextsAreAsked}
use Rattle.hwdb_forms.proofs.MeetLemmas.{both_first, both_second, both_true, either_true, or_cases, or_first, or_second, own_span}
use Rattle.hwdb_forms.proofs.ReadLemmas.{form_in, form_out}
use Rattle.hwdb_forms.proofs.FrontLemmas.{fine_both}
use Rattle.hwdb_spec.specs.declared.Judgement.TheVariants.{Fine}

-- what is told of a text is told so, too
abbrev pub Sub : (List ℕ → Type 0) → (List ℕ → Type 0) → Type 0
Sub B C = (t : List ℕ) → B t → C t

-- ---- sets
-- whether a span is within one of some; each of some spans; a set within another one
abbrev pub span_within : ℕ × ℕ → List (ℕ × ℕ) → Bool
span_within span [] = false
span_within span (wide ∷ more) =
    if (if nat_le wide.0 span.0 then nat_le span.1 wide.1 else false) then true else span_within span more

abbrev pub spans_within : List (ℕ × ℕ) → List (ℕ × ℕ) → Bool
spans_within [] wide = true
spans_within (span ∷ more) wide = if span_within span wide then spans_within more wide else false

abbrev pub set_within : ByteSet → ByteSet → Bool
set_within s w = spans_within (set_spans s) (set_spans w)

span_has : (span wide : ℕ × ℕ) (b : ℕ) → IsTrue (if nat_le wide.0 span.0 then nat_le span.1 wide.1 else false) → IsTrue (in_span b span) → IsTrue (in_span b wide)
span_has span wide b w h =
    let low : wide.0 ≤ span.0 = leb-true wide.0 span.0 (both_first (nat_le wide.0 span.0) (nat_le span.1 wide.1) w) in
    let high : span.1 ≤ wide.1 = leb-true span.1 wide.1 (both_second (nat_le wide.0 span.0) (nat_le span.1 wide.1) w) in
    let from : span.0 ≤ b = leb-true span.0 b (both_first (nat_le span.0 b) (nat_le b span.1) h) in
    let to : b ≤ span.1 = leb-true b span.1 (both_second (nat_le span.0 b) (nat_le b span.1) h) in
    both_true (nat_le wide.0 b) (nat_le b wide.1) (le-leb wide.0 b (omega arith)) (le-leb b wide.1 (omega arith))

any_has : (span : ℕ × ℕ) (wide : List (ℕ × ℕ)) (b : ℕ) → IsTrue (span_within span wide) → IsTrue (in_span b span) → IsTrue (list_any (in_span b) wide)
any_has span [] b w h = cc
any_has span (first ∷ more) b w h =
    elim (either_true (if nat_le first.0 span.0 then nat_le span.1 first.1 else false) (span_within span more) w) [
      | inl here ↦ or_first (in_span b first) (list_any (in_span b) more) (span_has span first b here h)
      | inr later ↦ or_second (in_span b first) (list_any (in_span b) more) (any_has span more b later h)
    ]

all_have : (spans wide : List (ℕ × ℕ)) (b : ℕ) → IsTrue (spans_within spans wide) → IsTrue (list_any (in_span b) spans) → IsTrue (list_any (in_span b) wide)
all_have [] wide b w h = cc
all_have (span ∷ more) wide b w h = elim (or_cases (in_span b span) (list_any (in_span b) more) h) [
  | inl here ↦ any_has span wide b (both_first (span_within span wide) (spans_within more wide) w) here
  | inr later ↦ all_have more wide b (both_second (span_within span wide) (spans_within more wide) w) later
]

set_has : (s w : ByteSet) (b : ℕ) → IsTrue (set_within s w) → IsTrue (is_in s b) → IsTrue (is_in w b)
set_has s w b e h = all_have (set_spans s) (set_spans w) b e h

-- ---- what comes after
byte_sub : (s : ByteSet) (B C : List ℕ → Type 0) → Sub B C → Sub (ByteThen s B) (ByteThen s C)
byte_sub s B C k [] h = absurd h
byte_sub s B C k (b ∷ rest) h = (h.0, k rest h.1)

many_wide : (s w : ByteSet) (B C : List ℕ → Type 0) → IsTrue (set_within s w) → Sub B C → Sub (ManyThen s B) (ManyThen w C)
many_wide s w B C e k [] h = k [] h
many_wide s w B C e k (b ∷ rest) h = elim h [
  | inl here ↦ inl (k (b ∷ rest) here)
  | inr later ↦ inr (set_has s w b e later.0, many_wide s w B C e k rest later.1)
]

many_sub : (s : ByteSet) (B C : List ℕ → Type 0) → Sub B C → Sub (ManyThen s B) (ManyThen s C)
many_sub s B C k [] h = k [] h
many_sub s B C k (b ∷ rest) h = elim h [
  | inl here ↦ inl (k (b ∷ rest) here)
  | inr later ↦ inr (later.0, many_sub s B C k rest later.1)
]

many_start : (w : ByteSet) (B C : List ℕ → Type 0) → Sub B C → Sub B (ManyThen w C)
many_start w B C k [] h = k [] h
many_start w B C k (b ∷ rest) h = inl (k (b ∷ rest) h)

fixed_sub : (own : List ℕ) (B C : List ℕ → Type 0) → Sub B C → Sub (FixedThen own B) (FixedThen own C)
fixed_sub [] B C k t h = k t h
fixed_sub (b ∷ own) B C k t h = byte_sub (Only b) (FixedThen own B) (FixedThen own C) (fixed_sub own B C k) t h

counted_sub : (s : ByteSet) (n : ℕ) (B C : List ℕ → Type 0) → Sub B C → Sub (CountedThen s n B) (CountedThen s n C)
counted_sub s zero B C k t h = k t h
counted_sub s (suc n) B C k t h = byte_sub s (CountedThen s n B) (CountedThen s n C) (counted_sub s n B C k) t h

piece_sub : (p : Piece) (B C : List ℕ → Type 0) → Sub B C → Sub (PieceThen p B) (PieceThen p C)
piece_sub (fixed own) B C k t h = fixed_sub own B C k t h
piece_sub (counted s n) B C k t h = counted_sub s n B C k t h
piece_sub (repeated s) B C k t h = many_sub s B C k t h

pieces_sub : (ps : List Piece) (B C : List ℕ → Type 0) → Sub B C → Sub (PiecesThen ps B) (PiecesThen ps C)
pieces_sub [] B C k t h = k t h
pieces_sub (p ∷ more) B C k t h = piece_sub p (PiecesThen more B) (PiecesThen more C) (pieces_sub more B C k) t h

field_sub : (ways : List (List Piece)) (B C : List ℕ → Type 0) → Sub B C → Sub (FieldThen ways B) (FieldThen ways C)
field_sub [] B C k t h = absurd h
field_sub (way ∷ more) B C k t h = elim h [
  | inl here ↦ inl (pieces_sub way B C k t here)
  | inr later ↦ inr (field_sub more B C k t later)
]

-- ---- what any number of bytes of a set takes
abbrev pub bytes_within : List ℕ → ByteSet → Bool
bytes_within [] w = true
bytes_within (b ∷ more) w = if is_in w b then bytes_within more w else false

abbrev pub piece_within : Piece → ByteSet → Bool
piece_within (fixed own) w = bytes_within own w
piece_within (counted s n) w = set_within s w
piece_within (repeated s) w = set_within s w

abbrev pub pieces_within : List Piece → ByteSet → Bool
pieces_within [] w = true
pieces_within (p ∷ more) w = if piece_within p w then pieces_within more w else false

abbrev pub ways_within : List (List Piece) → ByteSet → Bool
ways_within [] w = true
ways_within (way ∷ more) w = if pieces_within way w then ways_within more w else false

byte_taken : (s w : ByteSet) (C : List ℕ → Type 0) → ((b : ℕ) → IsTrue (is_in s b) → IsTrue (is_in w b)) → Sub (ByteThen s (ManyThen w C)) (ManyThen w C)
byte_taken s w C e [] h = absurd h
byte_taken s w C e (b ∷ rest) h = inr (e b h.0, h.1)

many_taken : (s w : ByteSet) (C : List ℕ → Type 0) → IsTrue (set_within s w) → Sub (ManyThen s (ManyThen w C)) (ManyThen w C)
many_taken s w C e [] h = h
many_taken s w C e (b ∷ rest) h = elim h [
  | inl here ↦ here
  | inr later ↦ inr (set_has s w b e later.0, many_taken s w C e rest later.1)
]

own_within : (own : ℕ) (w : ByteSet) → IsTrue (is_in w own) → (b : ℕ) → IsTrue (is_in (Only own) b) → IsTrue (is_in w b)
own_within own w e b h = subst (λ (x : ℕ). IsTrue (is_in w x)) (sym (own_span b own h)) e

fixed_taken : (own : List ℕ) (w : ByteSet) (C : List ℕ → Type 0) → IsTrue (bytes_within own w) → Sub (FixedThen own (ManyThen w C)) (ManyThen w C)
fixed_taken [] w C e t h = h
fixed_taken (b ∷ own) w C e t h =
    byte_taken (Only b) w C (own_within b w (both_first (is_in w b) (bytes_within own w) e)) t
    (byte_sub (Only b) (FixedThen own (ManyThen w C)) (ManyThen w C) (fixed_taken own w C (both_second (is_in w b) (bytes_within own w) e)) t h)

counted_taken : (s : ByteSet) (n : ℕ) (w : ByteSet) (C : List ℕ → Type 0) → IsTrue (set_within s w) → Sub (CountedThen s n (ManyThen w C)) (ManyThen w C)
counted_taken s zero w C e t h = h
counted_taken s (suc n) w C e t h =
    byte_taken s w C (λ b i. set_has s w b e i) t (byte_sub s (CountedThen s n (ManyThen w C)) (ManyThen w C) (counted_taken s n w C e) t h)

piece_taken : (p : Piece) (w : ByteSet) (C : List ℕ → Type 0) → IsTrue (piece_within p w) → Sub (PieceThen p (ManyThen w C)) (ManyThen w C)
piece_taken (fixed own) w C e t h = fixed_taken own w C e t h
piece_taken (counted s n) w C e t h = counted_taken s n w C e t h
piece_taken (repeated s) w C e t h = many_taken s w C e t h

pieces_taken : (ps : List Piece) (w : ByteSet) (B C : List ℕ → Type 0) → IsTrue (pieces_within ps w) → Sub B (ManyThen w C) → Sub (PiecesThen ps B) (ManyThen w C)
pieces_taken [] w B C e k t h = k t h
pieces_taken (p ∷ more) w B C e k t h =
    piece_taken p w C (both_first (piece_within p w) (pieces_within more w) e) t
    (piece_sub p (PiecesThen more B) (ManyThen w C) (pieces_taken more w B C (both_second (piece_within p w) (pieces_within more w) e) k) t h)

field_taken : (ways : List (List Piece)) (w : ByteSet) (B C : List ℕ → Type 0) → IsTrue (ways_within ways w) → Sub B (ManyThen w C) → Sub (FieldThen ways B) (ManyThen w C)
field_taken [] w B C e k t h = absurd h
field_taken (way ∷ more) w B C e k t h = elim h [
  | inl here ↦ pieces_taken way w B C (both_first (pieces_within way w) (ways_within more w) e) k t here
  | inr later ↦ field_taken more w B C (both_second (pieces_within way w) (ways_within more w) e) k t later
]

taken : (field : List (List Piece)) (tail : List (List (List Piece))) (w : ByteSet) (C : List ℕ → Type 0) → IsTrue (ways_within field w) → Sub (Fields tail) (ManyThen w C) → Sub (Fields (field ∷ tail)) (ManyThen w C)
taken field tail w C e k = field_taken field w (Fields tail) C e k

-- the only way of a field
only_way : (way : List Piece) (B D : List ℕ → Type 0) → Sub (PiecesThen way B) D → Sub (FieldThen (always way) B) D
only_way way B D k t h = elim h [
  | inl here ↦ k t here
  | inr none ↦ absurd none
]

-- a way or none, in place of another one or none
way_or_none : (way wide : List Piece) (B C : List ℕ → Type 0) → Sub (PiecesThen way B) (PiecesThen wide C) → Sub B C → Sub (FieldThen (optional way) B) (FieldThen (optional wide) C)
way_or_none way wide B C k l t h = elim h [
  | inl here ↦ inl (k t here)
  | inr later ↦ elim later [
    | inl after ↦ inr (inl (l t after))
    | inr none ↦ absurd none
  ]
]

-- ---- the machine's name
written : (set : ByteSet) (name : List ℕ) (B C : List ℕ → Type 0) → Sub B C → Sub (FieldThen (always (machine_pieces set name)) B) (FieldThen (dmi_field set name) C)
written set name B C k t h =
    only_way (machine_pieces set name) B (FieldThen (dmi_field set name) C) (λ u g. inl (pieces_sub (machine_pieces set name) B C k u g)) t h

-- numbers in place of any bytes of a set
numbers : (set : ByteSet) (name : List ℕ) (ps : List Piece) (B C : List ℕ → Type 0) → IsTrue (pieces_within ps set) → Sub B C
    → Sub (FixedThen name (PiecesThen ps (FixedThen (codes ":") B))) (PiecesThen (machine_pieces set name) C)
numbers set name ps B C e k t h =
    fixed_sub name (PiecesThen ps (FixedThen (codes ":") B)) (ManyThen set (FixedThen (codes ":") C))
    (pieces_taken ps set (FixedThen (codes ":") B) (FixedThen (codes ":") C) e (many_start set (FixedThen (codes ":") B) (FixedThen (codes ":") C) (fixed_sub (codes ":") B C k))) t h

abbrev pub two : List Piece
two = repeated UpperHex ∷ fixed (codes ".") ∷ repeated UpperHex ∷ []

abbrev pub single : List Piece
single = repeated UpperHex ∷ []

abbrev pub HasNumbers : ByteSet → Type 0
HasNumbers set = IsTrue (pieces_within two set) × IsTrue (pieces_within single set)

board : (set : ByteSet) (B C : List ℕ → Type 0) → Sub B C
    → Sub (FieldThen (optional (machine_pieces set (codes "rvn") ++ (machine_pieces set (codes "rn") ++ machine_pieces set (codes "rvr")))) B)
    (FieldThen (dmi_field set (codes "rvn")) (FieldThen (dmi_field set (codes "rn")) (FieldThen (dmi_field set (codes "rvr")) C)))
board set B C k t h = elim h [
  | inl here ↦ inl (pieces_sub (machine_pieces set (codes "rvn")) (PiecesThen (machine_pieces set (codes "rn") ++ machine_pieces set (codes "rvr")) B)
      (FieldThen (dmi_field set (codes "rn")) (FieldThen (dmi_field set (codes "rvr")) C))
      (λ u g. inl (pieces_sub (machine_pieces set (codes "rn")) (PiecesThen (machine_pieces set (codes "rvr")) B) (FieldThen (dmi_field set (codes "rvr")) C)
      (λ v f. inl (pieces_sub (machine_pieces set (codes "rvr")) B C k v f)) u g)) t here)
  | inr later ↦ elim later [
    | inl after ↦ inr (inl (inr (inl (inr (inl (k t after))))))
    | inr none ↦ absurd none
  ]
]

case_within : (set : ByteSet) → HasNumbers set → (tail rest : List (List (List Piece))) → Sub (Fields tail) (Fields rest)
    → Sub (Fields (case_fields set ++ tail)) (Fields (dmi_field set (codes "cvn") ∷ dmi_field set (codes "ct") ∷ dmi_field set (codes "cvr") ∷ dmi_field set (codes "sku") ∷ rest))
case_within set e tail rest k =
    let last : Sub (Fields (optional (machine_pieces set (codes "sku")) ∷ tail)) (Fields (dmi_field set (codes "sku") ∷ rest)) =
    field_sub (optional (machine_pieces set (codes "sku"))) (Fields tail) (Fields rest) k in
    let cvr : Sub (Fields (always (machine_pieces set (codes "cvr")) ∷ optional (machine_pieces set (codes "sku")) ∷ tail)) (Fields (dmi_field set (codes "cvr") ∷ dmi_field set (codes "sku") ∷ rest)) =
    written set (codes "cvr") _ _ last in
    let ct : Sub (Fields (always (fixed (codes "ct") ∷ repeated UpperHex ∷ fixed (codes ":") ∷ []) ∷ always (machine_pieces set (codes "cvr")) ∷ optional (machine_pieces set (codes "sku")) ∷ tail))
    (Fields (dmi_field set (codes "ct") ∷ dmi_field set (codes "cvr") ∷ dmi_field set (codes "sku") ∷ rest)) =
    only_way (fixed (codes "ct") ∷ repeated UpperHex ∷ fixed (codes ":") ∷ []) _ _ (λ t h. inl (numbers set (codes "ct") single _ _ e.1 cvr t h)) in
    written set (codes "cvn") _ _ ct

machine_within : (set : ByteSet) → HasNumbers set → (tail rest : List (List (List Piece))) → Sub (Fields tail) (Fields rest) → Sub (Fields (machine_fields set ++ tail)) (Fields (dmi_fields set ++ rest))
machine_within set e tail rest k =
    written set (codes "bvn") _ _
    (written set (codes "bvr") _ _
    (written set (codes "bd") _ _
    (only_way (release_pieces (codes "br")) _ _ (λ t h. inl (numbers set (codes "br") two _ _ e.0
    (way_or_none (release_pieces (codes "efr")) (machine_pieces set (codes "efr")) _ _ (numbers set (codes "efr") two _ _ e.0 later) later) t h)))))
  where
    later : Sub (Fields (always (machine_pieces set (codes "svn")) ∷ always (machine_pieces set (codes "pn")) ∷ always (machine_pieces set (codes "pvr")) ∷ optional (machine_pieces set (codes "sku"))
        ∷ optional (machine_pieces set (codes "rvn") ++ (machine_pieces set (codes "rn") ++ machine_pieces set (codes "rvr"))) ∷ (case_fields set ++ tail)))
        (Fields (dmi_field set (codes "svn") ∷ dmi_field set (codes "pn") ∷ dmi_field set (codes "pvr") ∷ dmi_field set (codes "sku") ∷ dmi_field set (codes "rvn") ∷ dmi_field set (codes "rn")
        ∷ dmi_field set (codes "rvr") ∷ dmi_field set (codes "cvn") ∷ dmi_field set (codes "ct") ∷ dmi_field set (codes "cvr") ∷ dmi_field set (codes "sku") ∷ rest))
    later =
        written set (codes "svn") _ _
        (written set (codes "pn") _ _
        (written set (codes "pvr") _ _
        (field_sub (optional (machine_pieces set (codes "sku"))) _ _
        (board set _ _ (case_within set e tail rest k)))))

-- the machine's name after another text, and the tag of a case
abbrev pub dmi_after : List (List (List Piece))
dmi_after = always (fixed (codes "dmi:") ∷ []) ∷ dmi_fields DmiLeft

abbrev pub tag : List (List (List Piece))
tag = optional (fixed (codes "cat") ∷ repeated Left ∷ fixed (codes ":") ∷ []) ∷ []

after_within : Sub (Fields machine_after) (Fields dmi_after)
after_within = field_sub (always (fixed (codes "dmi:") ∷ [])) _ _ (machine_within DmiLeft (refl, refl) [] [] (λ t h. h))

-- ---- names
name_within : (before after : List ℕ) (tail rest : List (List (List Piece))) → Sub (Fields tail) (Fields rest) → Sub (Fields (likely_name before after ++ tail)) (Fields (name_field before after ∷ rest))
name_within before after tail rest k =
    only_way (fixed before ∷ repeated LeftButColon ∷ []) (Fields (name_part ∷ name_part ∷ name_part ∷ always (fixed after ∷ []) ∷ tail)) (Fields (name_field before after ∷ rest)) (λ t h. inl (fixed_sub before (ManyThen LeftButColon (Fields (name_part ∷ name_part ∷ name_part ∷ always (fixed after ∷ []) ∷ tail))) (ManyThen Left (FixedThen after (Fields rest))) (λ u g. many_taken LeftButColon Left (FixedThen after (Fields rest)) refl u (many_sub LeftButColon (Fields (name_part ∷ name_part ∷ name_part ∷ always (fixed after ∷ []) ∷ tail)) (ManyThen Left (FixedThen after (Fields rest))) parts u g)) t h))
  where
    end : Sub (Fields (always (fixed after ∷ []) ∷ tail)) (ManyThen Left (FixedThen after (Fields rest)))
    end = only_way (fixed after ∷ []) (Fields tail) (ManyThen Left (FixedThen after (Fields rest))) (many_start Left (FixedThen after (Fields tail)) (FixedThen after (Fields rest)) (fixed_sub after (Fields tail) (Fields rest) k))

    parts : Sub (Fields (name_part ∷ name_part ∷ name_part ∷ always (fixed after ∷ []) ∷ tail)) (ManyThen Left (FixedThen after (Fields rest)))
    parts =
        taken name_part (name_part ∷ name_part ∷ always (fixed after ∷ []) ∷ tail) Left (FixedThen after (Fields rest)) refl
        (taken name_part (name_part ∷ always (fixed after ∷ []) ∷ tail) Left (FixedThen after (Fields rest)) refl
        (taken name_part (always (fixed after ∷ []) ∷ tail) Left (FixedThen after (Fields rest)) refl end))

-- a place and events
abbrev pub placed : List Piece
placed = fixed (codes "phys:") ∷ repeated Left ∷ fixed (codes ":ev:") ∷ repeated HexOrBlank ∷ fixed (codes ":") ∷ []

abbrev pub event_pieces : List Piece
event_pieces = fixed (codes ":ev:") ∷ repeated HexOrBlank ∷ fixed (codes ":") ∷ []

place_within : (tail rest : List (List (List Piece))) → Sub (Fields tail) (Fields rest) → Sub (Fields (likely_place ++ tail)) (Fields (optional placed ∷ rest))
place_within tail rest k =
    only_way (fixed (codes "phys:") ∷ repeated LeftButColon ∷ []) (Fields (place_part ∷ place_part ∷ place_part ∷ place_part ∷ place_part ∷ always event_pieces ∷ tail)) (Fields (optional placed ∷ rest))
    (λ t h. inl (fixed_sub (codes "phys:") (ManyThen LeftButColon (Fields (place_part ∷ place_part ∷ place_part ∷ place_part ∷ place_part ∷ always event_pieces ∷ tail))) (ManyThen Left (PiecesThen event_pieces (Fields rest))) (λ u g. many_taken LeftButColon Left (PiecesThen event_pieces (Fields rest)) refl u (many_sub LeftButColon (Fields (place_part ∷ place_part ∷ place_part ∷ place_part ∷ place_part ∷ always event_pieces ∷ tail)) (ManyThen Left (PiecesThen event_pieces (Fields rest))) parts u g)) t h))
  where
    end : Sub (Fields (always event_pieces ∷ tail)) (ManyThen Left (PiecesThen event_pieces (Fields rest)))
    end =
        only_way event_pieces (Fields tail) (ManyThen Left (PiecesThen event_pieces (Fields rest)))
        (many_start Left (PiecesThen event_pieces (Fields tail)) (PiecesThen event_pieces (Fields rest)) (pieces_sub event_pieces (Fields tail) (Fields rest) k))

    parts : Sub (Fields (place_part ∷ place_part ∷ place_part ∷ place_part ∷ place_part ∷ always event_pieces ∷ tail)) (ManyThen Left (PiecesThen event_pieces (Fields rest)))
    parts =
        taken place_part (place_part ∷ place_part ∷ place_part ∷ place_part ∷ always event_pieces ∷ tail) Left (PiecesThen event_pieces (Fields rest)) refl
        (taken place_part (place_part ∷ place_part ∷ place_part ∷ always event_pieces ∷ tail) Left (PiecesThen event_pieces (Fields rest)) refl
        (taken place_part (place_part ∷ place_part ∷ always event_pieces ∷ tail) Left (PiecesThen event_pieces (Fields rest)) refl
        (taken place_part (place_part ∷ always event_pieces ∷ tail) Left (PiecesThen event_pieces (Fields rest)) refl
        (taken place_part (always event_pieces ∷ tail) Left (PiecesThen event_pieces (Fields rest)) refl end))))

-- ---- sensors
abbrev pub colon : List Piece
colon = fixed (codes ":") ∷ []

abbrev pub behind : List Piece
behind = repeated Left ∷ fixed (codes ":") ∷ []

abbrev pub modalias : List Piece
modalias = fixed (codes "modalias:") ∷ repeated LeftButColon ∷ fixed (codes ":") ∷ []

abbrev pub all_within : List (List ℕ) → Bool
all_within [] = true
all_within (bus ∷ more) = if bytes_within bus LeftButColon then all_within more else false

on_it_within : (bus : List ℕ) (B C : List ℕ → Type 0) → IsTrue (bytes_within bus LeftButColon) → Sub B (ManyThen Left (FixedThen (codes ":") C)) → Sub (PiecesThen (on_it bus) B) (PiecesThen modalias (FieldThen (optional behind) C))
on_it_within bus B C e k =
    fixed_sub (codes "modalias:") _ _ (λ t h. fixed_taken bus LeftButColon (FixedThen (codes ":") (FieldThen (optional behind) C)) e t
    (fixed_sub bus _ _ (many_start LeftButColon _ _ (fixed_sub (codes ":") _ _ (λ u g. inl (pieces_taken (counted LeftButColon 4 ∷ repeated LeftButColon ∷ []) Left B (FixedThen (codes ":") C) refl k u g)))) t h))

buses_within : (buses : List (List ℕ)) (B C : List ℕ → Type 0) → IsTrue (all_within buses) → Sub B (ManyThen Left (FixedThen (codes ":") C)) → Sub (FieldThen (map on_it buses) B) (FieldThen (always modalias) (FieldThen (optional behind) C))
buses_within [] B C e k t h = absurd h
buses_within (bus ∷ more) B C e k t h = elim h [
  | inl here ↦ inl (on_it_within bus B C (both_first (bytes_within bus LeftButColon) (all_within more) e) k t here)
  | inr later ↦ buses_within more B C (both_second (bytes_within bus LeftButColon) (all_within more) e) k t later
]

sensed_within : (tail rest : List (List (List Piece))) → Sub (Fields tail) (Fields rest)
    → Sub (Fields (LikelyForms.likely_sensed ++ tail)) (Fields (FormTable.sensed ++ rest))
sensed_within tail rest k =
    way_or_none (repeated LeftButColon ∷ fixed (codes ":") ∷ []) behind _ _ (λ t h. many_wide LeftButColon Left _ _ refl (fixed_sub (codes ":") _ _ named) t h) named
  where
    end : Sub (Fields (always colon ∷ tail)) (ManyThen Left (FixedThen (codes ":") (Fields rest)))
    end = only_way colon (Fields tail) (ManyThen Left (FixedThen (codes ":") (Fields rest))) (many_start Left (FixedThen (codes ":") (Fields tail)) (FixedThen (codes ":") (Fields rest)) (fixed_sub (codes ":") (Fields tail) (Fields rest) k))

    parts : Sub (Fields (more_ids ∷ more_ids ∷ optional colon ∷ always colon ∷ tail)) (ManyThen Left (FixedThen (codes ":") (Fields rest)))
    parts =
        taken more_ids (more_ids ∷ optional colon ∷ always colon ∷ tail) Left (FixedThen (codes ":") (Fields rest)) refl
        (taken more_ids (optional colon ∷ always colon ∷ tail) Left (FixedThen (codes ":") (Fields rest)) refl
        (taken (optional colon) (always colon ∷ tail) Left (FixedThen (codes ":") (Fields rest)) refl end))

    named : Sub (Fields (map on_it (codes "acpi" ∷ codes "platform" ∷ codes "i2c" ∷ codes "of" ∷ codes "usb" ∷ []) ∷ more_ids ∷ more_ids ∷ optional colon ∷ always colon ∷ tail))
        (Fields (always modalias ∷ optional behind ∷ rest))
    named =
        buses_within (codes "acpi" ∷ codes "platform" ∷ codes "i2c" ∷ codes "of" ∷ codes "usb" ∷ []) (Fields (more_ids ∷ more_ids ∷ optional colon ∷ always colon ∷ tail)) (Fields rest) refl parts

-- ---- two names
names_within : (tail rest : List (List (List Piece))) → Sub (Fields tail) (Fields rest) → Sub (Fields (LikelyForms.likely_names ++ tail)) (Fields (FormTable.two_names ++ rest))
names_within tail rest k =
    only_way (repeated LeftButColon ∷ fixed (codes ":") ∷ repeated LeftButColon ∷ fixed (codes ":") ∷ []) _ _
    (λ t h. inl (many_sub LeftButColon _ _ (fixed_sub (codes ":") _ _ (λ u g. many_wide LeftButColon Left _ _ refl (fixed_sub (codes ":") _ _ k) u g)) t h))

-- ---- the forms
-- a text of a form is a text of some form that is asked
abbrev pub IsAskedText : Form → Type 0
IsAskedText form = (text : List ℕ) → HasForm form text → HasOneOf asked text

has_at : (front : List Form) (form : Form) (more : List Form) (text : List ℕ) → HasForm form text → HasOneOf (front ++ form ∷ more) text
has_at [] form more text h = inl h
has_at (x ∷ front) form more text h = inr (has_at front form more text h)

asked_at : (n : ℕ) (form : Form) → asked ≡ take n asked ++ form ∷ drop (suc n) asked → IsAskedText form
asked_at n form place text h =
    subst (λ (forms : List Form). HasOneOf forms text) (sym place) (has_at (take n asked) form (drop (suc n) asked) text h)

within : (form wide : Form) → form.prefix ≡ wide.prefix → Sub (Fields form.fields) (Fields wide.fields) → IsAskedText wide → IsAskedText form
within form wide same k a text h =
    a text (form_out wide text (subst (λ (prefix : List ℕ). FixedThen prefix (Fields wide.fields) text) same (fixed_sub form.prefix (Fields form.fields) (Fields wide.fields) k text (form_in form text h))))

one_of : (forms : List Form) → Every Form IsAskedText forms → (text : List ℕ) → HasOneOf forms text → HasOneOf asked text
one_of [] e text h = absurd h
one_of (form ∷ more) e text h = elim h [
  | inl here ↦ e.0 text here
  | inr later ↦ one_of more e.1 text later
]

kept_asked : Every Form IsAskedText kept
unfolding kept known
kept_asked = (
  asked_at 0 FormTable.usb refl,
  (
    asked_at 1 FormTable.pci refl,
    (
      asked_at 2 FormTable.bluetooth refl,
      (
        asked_at 3 FormTable.acpi refl,
        (
          asked_at 5 FormTable.evdev_input refl,
          (
            asked_at 7 FormTable.evdev_keyboard refl,
            (
              asked_at 10 FormTable.id_input refl,
              (
                asked_at 21 FormTable.ieee1394_node refl,
                (
                  asked_at 22 FormTable.ieee1394_unit refl,
                  (
                    asked_at 23 FormTable.oui refl,
                    (asked_at 24 FormTable.net refl, (asked_at 25 FormTable.sdio refl, (asked_at 26 FormTable.vmbus refl, (asked_at 27 FormTable.fb refl, (asked_at 28 FormTable.tpm2 refl, (asked_at 29 FormTable.block refl, tt)))))),
                  ),
                ),
              ),
            ),
          ),
        ),
      ),
    ),
  ),
)

-- each of the wide ones is asked
dmi_asked : IsAskedText FormTable.dmi
unfolding known
dmi_asked = asked_at 4 FormTable.dmi refl

evdev_machine_asked : IsAskedText FormTable.evdev_machine
unfolding known
evdev_machine_asked = asked_at 6 FormTable.evdev_machine refl

evdev_name_machine_asked : IsAskedText FormTable.evdev_name_machine
unfolding known
evdev_name_machine_asked = asked_at 8 FormTable.evdev_name_machine refl

evdev_name_asked : IsAskedText FormTable.evdev_name
unfolding known
evdev_name_asked = asked_at 9 FormTable.evdev_name refl

id_input_name_asked : IsAskedText FormTable.id_input_name
unfolding known
id_input_name_asked = asked_at 11 FormTable.id_input_name refl

mouse_asked : IsAskedText FormTable.mouse
unfolding known
mouse_asked = asked_at 12 FormTable.mouse refl

touchpad_asked : IsAskedText FormTable.touchpad
unfolding known
touchpad_asked = asked_at 13 FormTable.touchpad refl

joystick_asked : IsAskedText FormTable.joystick
unfolding known
joystick_asked = asked_at 14 FormTable.joystick refl

camera_asked : IsAskedText FormTable.camera
unfolding known
camera_asked = asked_at 15 FormTable.camera refl

sensor_machine_asked : IsAskedText FormTable.sensor_machine
unfolding known
sensor_machine_asked = asked_at 16 FormTable.sensor_machine refl

sensor_asked : IsAskedText FormTable.sensor
unfolding known
sensor_asked = asked_at 17 FormTable.sensor refl

battery_machine_asked : IsAskedText FormTable.battery_machine
unfolding known
battery_machine_asked = asked_at 18 FormTable.battery_machine refl

battery_asked : IsAskedText FormTable.battery
unfolding known
battery_asked = asked_at 19 FormTable.battery refl

libwacom_asked : IsAskedText FormTable.libwacom
unfolding known
libwacom_asked = asked_at 20 FormTable.libwacom refl

bus_within : Sub (Fields LikelyForms.likely_bus) (Fields FormTable.on_bus)
bus_within =
    field_sub (always (repeated Name ∷ fixed (codes ":") ∷ [])) _ _ (field_sub (always (pair LowerHex)) _ _ (name_within (codes ":name:") (codes ":") [] [] (λ t h. h)))

narrow_asked : Every Form IsAskedText (map (λ k. k.form) narrow)
unfolding narrow
narrow_asked = (
  within LikelyForms.dmi FormTable.dmi refl (machine_within Dmi (refl, refl) tag tag (λ t h. h)) dmi_asked,
  (
    within LikelyForms.evdev_machine FormTable.evdev_machine refl (only_way (fixed (codes "atkbd:") ∷ []) _ _ (λ t h. inl (fixed_sub (codes "atkbd:") _ _ (only_way (fixed (codes "dmi:") ∷ []) _ _ (fixed_sub (codes "dmi:") _ _ (machine_within DmiLeft (refl, refl) [] [] (λ u g. g)))) t h))) evdev_machine_asked,
    (
      within LikelyForms.evdev_name_machine FormTable.evdev_name_machine refl (name_within (codes "name:") (codes ":") machine_after (optional placed ∷ dmi_after) (λ t h. inr (inl (after_within t h)))) evdev_name_machine_asked,
      (
        within LikelyForms.evdev_place_machine FormTable.evdev_name_machine refl (name_within (codes "name:") (codes ":") (likely_place ++ machine_after) (optional placed ∷ dmi_after) (place_within machine_after dmi_after after_within)) evdev_name_machine_asked,
        (
          within LikelyForms.evdev_name FormTable.evdev_name refl (name_within (codes "name:") (codes ":") [] (optional placed ∷ []) (λ t h. inr (inl h))) evdev_name_asked,
          (
            within LikelyForms.evdev_place FormTable.evdev_name refl (name_within (codes "name:") (codes ":") likely_place (optional placed ∷ []) (place_within [] [] (λ t h. h))) evdev_name_asked,
            (
              within LikelyForms.id_input_name FormTable.id_input_name refl bus_within id_input_name_asked,
              (
                within LikelyForms.mouse FormTable.mouse refl (field_sub ((fixed (codes "usb:") ∷ pair LowerHex) ∷ (fixed (codes "bluetooth:") ∷ pair LowerHex) ∷ (fixed (codes "ps2:") ∷ []) ∷ []) _ _ (name_within (codes ":name:") (codes ":") [] [] (λ t h. h))) mouse_asked,
                (
                  within LikelyForms.touchpad FormTable.touchpad refl bus_within touchpad_asked,
                  (
                    within LikelyForms.joystick FormTable.joystick refl bus_within joystick_asked,
                    (
                      within LikelyForms.camera FormTable.camera refl (field_sub (always (fixed (codes "usb:") ∷ pair LowerHex)) _ _ (name_within (codes ":name:") (codes ":") [] [] (λ t h. h))) camera_asked,
                      (
                        within LikelyForms.sensor_machine FormTable.sensor_machine refl (sensed_within machine_after dmi_after after_within) sensor_machine_asked,
                        (
                          within LikelyForms.sensor FormTable.sensor refl (sensed_within [] [] (λ t h. h)) sensor_asked,
                          (
                            within LikelyForms.battery_machine FormTable.battery_machine refl (names_within machine_after dmi_after after_within) battery_machine_asked,
                            (
                              within LikelyForms.battery FormTable.battery refl (names_within [] [] (λ t h. h)) battery_asked,
                              (within LikelyForms.libwacom FormTable.libwacom refl (name_within (codes "name:") (codes ":") (always input_pieces ∷ []) (always input_pieces ∷ []) (λ t h. h)) libwacom_asked, tt),
                            ),
                          ),
                        ),
                      ),
                    ),
                  ),
                ),
              ),
            ),
          ),
        ),
      ),
    ),
  ),
)

-- of two lists of forms
has_parted : (some others : List Form) (text : List ℕ) → HasOneOf (some ++ others) text → HasOneOf some text ⊎ HasOneOf others text
has_parted [] others text h = inr h
has_parted (form ∷ some) others text h = elim h [
  | inl here ↦ inl (inl here)
  | inr later ↦ elim (has_parted some others text later) [
    | inl left ↦ inl (inr left)
    | inr right ↦ inr right
  ]
]

has_second : (some others : List Form) (text : List ℕ) → HasOneOf others text → HasOneOf (some ++ others) text
has_second [] others text h = h
has_second (form ∷ some) others text h = inr (has_second some others text h)

pub likely_asked : LikelyTextsAreAsked
likely_asked text h = elim (has_parted (kept ++ map (λ k. k.form) narrow) (map free free_prefixes) text h) [
  | inl said ↦ elim (has_parted kept (map (λ k. k.form) narrow) text said) [
    | inl stays ↦ one_of kept kept_asked text stays
    | inr narrower ↦ one_of (map (λ k. k.form) narrow) narrow_asked text narrower
  ]
  | inr prefixed ↦ has_second (map (λ k. k.form) known) (map free free_prefixes) text prefixed
]

-- so nothing is said of a pattern of which nothing is said by likely texts
pub fine_likely : (pattern : List ℕ) → Fine ≡ judged likely pattern → Fine ≡ judged asked pattern
fine_likely pattern e = fine_both likely asked likely_asked pattern e
