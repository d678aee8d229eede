-- The texts of rows are the shortest ones that tokens match.
use Rattle.std.proofs.Common.{◌≡◌, ◌≤◌, ◌∙◌, sym, refl, subst, ℕ, Bool, true, false, IsTrue, List, [], ◌∷◌, ◌++◌, length, nat_lt, Option, Some, None, arith, suc, zero, inl, inr, ◌⊎◌}
use Rattle.std.proofs.lemmas.Bool.{ltb-false, ltb-true}
use Rattle.std.specs.Prelude.{if◌then◌else◌}
use Rattle.hwdb_spec.specs.Forms.{Form, HasForm, HasOneOf, Piece, candidates, counted, fixed, is_in, is_star, meets_form, repeated}
use Rattle.hwdb_spec.specs.Patterns.{Matches, Token, admits_byte, bracket, literal, one, star}
use Rattle.hwdb_spec.specs.declared.ByteSet.{ByteSet}
use Rattle.hwdb_spec.specs.declared.ByteSet.TheVariants.{Only}
use Rattle.hwdb_spec_commands.specs.FormTexts as spec
use Rattle.hwdb_spec_commands.specs.FormTexts.{Text, byte_for, first, others, shorter, with_byte}
use Rattle.hwdb_spec_commands.specs.SampleTexts.{usual}
use Rattle.hwdb_pattern.specs.Lemmas.Matching.{single, single_admits, single_empty, single_rest, star_empty, star_more, star_nothing, star_step}
use Rattle.hwdb_forms.specs.Internal.{ByteThen, CountedThen, FieldThen, Fields, Fits, FixedThen, ManyThen, PieceThen, PiecesThen, takes}
use Rattle.hwdb_forms.specs.Laws.{TextsAreFound, TextsAreShortest, TextsFit}
use Rattle.hwdb_forms.proofs.MeetLemmas.{both_first, both_second, both_true, candidate}
use Rattle.hwdb_forms.proofs.ReadLemmas.{form_in, form_out}
use Rattle.hwdb_forms.proofs.RowLemmas.{form_met, many_none, single_takes, takes_single}
use Rattle.hwdb_forms.proofs.TextLemmas.{among_more, find_some, find_nowhere}

-- ---- the shortest text of some

-- a text is one of those that are told, and no shorter one is; if there is none, none is told
abbrev pub Least : (List ℕ → Type 0) → Text → Type 0
Least Told None = (other : List ℕ) → Told other → ⊥
Least Told (Some text) = Told text × ((other : List ℕ) → Told other → length text ≤ length other)

-- each text that is told has one of others that is no longer
abbrev pub Reaches : (List ℕ → Type 0) → (List ℕ → Type 0) → Type 0
Reaches Told Other = (text : List ℕ) → Told text → (short : List ℕ) × Other short × (length short ≤ length text)

least_of : (Told Other : List ℕ → Type 0) (x : Text) → ((text : List ℕ) → Told text → Other text) → Reaches Other Told → Least Told x → Least Other x
least_of Told Other None f g l = λ other h. let s : (short : List ℕ) × Told short × (length short ≤ length other) = g other h in l s.0 s.1
least_of Told Other (Some text) f g l = (
  f text l.0,
  λ other h. let s : (short : List ℕ) × Told short × (length short ≤ length other) = g other h in let k : length text ≤ length s.0 = l.1 s.0 s.1 in omega (arith, k, s.2),
)

least_same : (Told Other : List ℕ → Type 0) (x : Text) → ((text : List ℕ) → Told text → Other text) → ((text : List ℕ) → Other text → Told text) → Least Told x → Least Other x
least_same Told Other x f g l = least_of Told Other x f (λ text h. (text, g text h, omega arith)) l

least_shorter : (Told Other : List ℕ → Type 0) (text other : List ℕ) → Least Told (Some text) → Least Other (Some other) → Least (λ t. Told t ⊎ Other t) (shorter (Some text) (Some other))
least_shorter Told Other text other l k = by_test (nat_lt (length other) (length text)) refl
  where
    by_test : (b : Bool) → nat_lt (length other) (length text) ≡ b → Least (λ t. Told t ⊎ Other t) (Some (if b then other else text))
    by_test true e = (
      inr k.0,
      λ t h. elim h [
        | inl here ↦ let a : length text ≤ length t = l.1 t here in omega (arith, a, ltb-true (length other) (length text) e)
        | inr there ↦ k.1 t there
      ],
    )
    by_test false e = (
      inl l.0,
      λ t h. elim h [
        | inl here ↦ l.1 t here
        | inr there ↦ let a : length other ≤ length t = k.1 t there in omega (arith, a, ltb-false (length other) (length text) e)
      ],
    )

least_either : (Told Other : List ℕ → Type 0) (x y : Text) → Least Told x → Least Other y → Least (λ t. Told t ⊎ Other t) (shorter x y)
least_either Told Other None None l k = λ t h. elim h [ inl here ↦ l t here | inr there ↦ k t there ]
least_either Told Other None (Some other) l k = (inr k.0, λ t h. elim h [ inl here ↦ absurd (l t here) | inr there ↦ k.1 t there ])
least_either Told Other (Some text) None l k = (inl l.0, λ t h. elim h [ inl here ↦ l.1 t here | inr there ↦ absurd (k t there) ])
least_either Told Other (Some text) (Some other) l k = least_shorter Told Other text other l k

-- a byte that passes, then what is told
abbrev pub After : (ℕ → Bool) → (List ℕ → Type 0) → List ℕ → Type 0
After p Told [] = ⊥
After p Told (b ∷ rest) = IsTrue (p b) × Told rest

-- a byte that passes, if one does
abbrev pub Picked : (ℕ → Bool) → Option ℕ → Type 0
Picked p None = (b : ℕ) → IsTrue (p b) → ⊥
Picked p (Some b) = IsTrue (p b)

no_first : (p : ℕ → Bool) (Told : List ℕ → Type 0) (text : List ℕ) → ((b : ℕ) → IsTrue (p b) → ⊥) → After p Told text → ⊥
no_first p Told [] h a = a
no_first p Told (b ∷ rest) h a = h b a.0

no_rest : (p : ℕ → Bool) (Told : List ℕ → Type 0) (text : List ℕ) → ((rest : List ℕ) → Told rest → ⊥) → After p Told text → ⊥
no_rest p Told [] h a = a
no_rest p Told (b ∷ rest) h a = h rest a.1

longer_rest : (p : ℕ → Bool) (Told : List ℕ → Type 0) (b : ℕ) (text other : List ℕ) → ((rest : List ℕ) → Told rest → length text ≤ length rest) → After p Told other → length (b ∷ text) ≤ length other
longer_rest p Told b text [] h a = absurd a
longer_rest p Told b text (c ∷ rest) h a = let k : length text ≤ length rest = h rest a.1 in omega (arith, k)

least_after : (p : ℕ → Bool) (Told : List ℕ → Type 0) (x : Text) (b : Option ℕ) → Picked p b → Least Told x → Least (After p Told) (with_byte x b)
least_after p Told None b h l = λ other a. no_rest p Told other l a
least_after p Told (Some text) None h l = λ other a. no_first p Told other h a
least_after p Told (Some text) (Some b) h l = ((h, l.0), λ other a. longer_rest p Told b text other l.1 a)

-- the byte of a token is one that it takes
pub picked : (t : Token) (bytes : ByteSet) → Picked (spec.takes t bytes) (byte_for t bytes)
picked t bytes = by_found (byte_for t bytes) refl
  where
    by_found : (o : Option ℕ) → byte_for t bytes ≡ o → Picked (spec.takes t bytes) o
    by_found None e = λ b h. find_nowhere (spec.takes t bytes) (usual ++ candidates bytes) b e (among_more usual (candidates bytes) b (candidate bytes b (both_first (is_in bytes b) (if is_star t then true else admits_byte t b) h))) h
    by_found (Some b) e = find_some (spec.takes t bytes) (usual ++ candidates bytes) b e

-- ---- cells

-- a text is told, and tokens match it
abbrev pub And : (List ℕ → Type 0) → List Token → List ℕ → Type 0
And Told ts text = Told text × Matches ts text

-- one byte of a set
single_cell : (bytes : ByteSet) (Told : List ℕ → Type 0) (t : Token) (ts : List Token) (after : Text) → is_star t ≡ false → Least (And Told ts) after → Least (And (ByteThen bytes Told) (t ∷ ts)) (with_byte after (byte_for t bytes))
single_cell bytes Told t ts after s l = least_same (After (spec.takes t bytes) (And Told ts)) (And (ByteThen bytes Told) (t ∷ ts)) _ from to (least_after (spec.takes t bytes) (And Told ts) after (byte_for t bytes) (picked t bytes) l)
  where
    from : (text : List ℕ) → After (spec.takes t bytes) (And Told ts) text → And (ByteThen bytes Told) (t ∷ ts) text
    from [] a = absurd a
    from (b ∷ rest) a =
        let i : IsTrue (is_in bytes b) = both_first (is_in bytes b) (takes t b) a.0 in
        ((i, a.1.0), single t ts b rest (takes_single t b s (both_second (is_in bytes b) (takes t b) a.0)) a.1.1)

    to : (text : List ℕ) → And (ByteThen bytes Told) (t ∷ ts) text → After (spec.takes t bytes) (And Told ts) text
    to [] a = a.0
    to (b ∷ rest) a = (both_true (is_in bytes b) (takes t b) a.0.0 (single_takes t b s (single_admits t ts b rest s a.1)), (a.0.1, single_rest t ts b rest s a.1))

star_cell : (bytes : ByteSet) (Told : List ℕ → Type 0) (ts : List Token) (here next : Text) → Least (And Told (star ∷ ts)) here → Least (And (ByteThen bytes Told) ts) next
    → Least (And (ByteThen bytes Told) (star ∷ ts)) (shorter next (with_byte here (byte_for star bytes)))
star_cell bytes Told ts here next l k =
    least_same (λ text. And (ByteThen bytes Told) ts text ⊎ After (spec.takes star bytes) (And Told (star ∷ ts)) text) (And (ByteThen bytes Told) (star ∷ ts)) _ from to
    (least_either (And (ByteThen bytes Told) ts) (After (spec.takes star bytes) (And Told (star ∷ ts))) next _ k
    (least_after (spec.takes star bytes) (And Told (star ∷ ts)) here (byte_for star bytes) (picked star bytes) l))
  where
    taken : (text : List ℕ) → After (spec.takes star bytes) (And Told (star ∷ ts)) text → And (ByteThen bytes Told) (star ∷ ts) text
    taken [] a = absurd a
    taken (b ∷ rest) a = ((both_first (is_in bytes b) true a.0, a.1.0), star_more ts b rest a.1.1)

    from : (text : List ℕ) → (And (ByteThen bytes Told) ts text ⊎ After (spec.takes star bytes) (And Told (star ∷ ts)) text) → And (ByteThen bytes Told) (star ∷ ts) text
    from text h = elim h [
      | inl passed ↦ (passed.0, star_nothing ts text passed.1)
      | inr a ↦ taken text a
    ]

    to : (text : List ℕ) → And (ByteThen bytes Told) (star ∷ ts) text → And (ByteThen bytes Told) ts text ⊎ After (spec.takes star bytes) (And Told (star ∷ ts)) text
    to [] a = absurd a.0
    to (b ∷ rest) a = elim (star_step ts b rest a.1) [
      | inl passed ↦ inl (a.0, passed)
      | inr later ↦ inr (both_true (is_in bytes b) true a.0.0 refl, (a.0.1, later))
    ]

byte_cell_least : (bytes : ByteSet) (Told : List ℕ → Type 0) (t : Token) (ts : List Token) (here after next : Text) → Least (And Told (t ∷ ts)) here → Least (And Told ts) after → Least (And (ByteThen bytes Told) ts) next
    → Least (And (ByteThen bytes Told) (t ∷ ts)) (spec.byte_cell (is_star t) (byte_for t bytes) here after next)
byte_cell_least bytes Told star ts here after next l a k = star_cell bytes Told ts here next l k
byte_cell_least bytes Told one ts here after next l a k = single_cell bytes Told one ts after refl a
byte_cell_least bytes Told (literal own) ts here after next l a k = single_cell bytes Told (literal own) ts after refl a
byte_cell_least bytes Told (bracket class) ts here after next l a k = single_cell bytes Told (bracket class) ts after refl a

-- any number of bytes
many_single : (bytes : ByteSet) (Told : List ℕ → Type 0) (t : Token) (ts : List Token) (here next : Text) → is_star t ≡ false → Least (And Told (t ∷ ts)) here → Least (And (ManyThen bytes Told) ts) next
    → Least (And (ManyThen bytes Told) (t ∷ ts)) (shorter here (with_byte next (byte_for t bytes)))
many_single bytes Told t ts here next s l k =
    least_same (λ text. And Told (t ∷ ts) text ⊎ After (spec.takes t bytes) (And (ManyThen bytes Told) ts) text) (And (ManyThen bytes Told) (t ∷ ts)) _ from to
    (least_either (And Told (t ∷ ts)) (After (spec.takes t bytes) (And (ManyThen bytes Told) ts)) here _ l
    (least_after (spec.takes t bytes) (And (ManyThen bytes Told) ts) next (byte_for t bytes) (picked t bytes) k))
  where
    taken : (text : List ℕ) → After (spec.takes t bytes) (And (ManyThen bytes Told) ts) text → And (ManyThen bytes Told) (t ∷ ts) text
    taken [] a = absurd a
    taken (b ∷ rest) a =
        (inr (both_first (is_in bytes b) (takes t b) a.0, a.1.0), single t ts b rest (takes_single t b s (both_second (is_in bytes b) (takes t b) a.0)) a.1.1)

    from : (text : List ℕ) → (And Told (t ∷ ts) text ⊎ After (spec.takes t bytes) (And (ManyThen bytes Told) ts) text) → And (ManyThen bytes Told) (t ∷ ts) text
    from text h = elim h [
      | inl passed ↦ (many_none bytes Told text passed.0, passed.1)
      | inr a ↦ taken text a
    ]

    to : (text : List ℕ) → And (ManyThen bytes Told) (t ∷ ts) text → And Told (t ∷ ts) text ⊎ After (spec.takes t bytes) (And (ManyThen bytes Told) ts) text
    to [] a = inl a
    to (b ∷ rest) a = elim a.0 [
      | inl here ↦ inl (here, a.1)
      | inr later ↦ inr (both_true (is_in bytes b) (takes t b) later.0 (single_takes t b s (single_admits t ts b rest s a.1)), (later.1, single_rest t ts b rest s a.1))
    ]

-- a star takes as many bytes as it may, and needs none of them
many_short : (bytes : ByteSet) (Told : List ℕ → Type 0) (ts : List Token) → Reaches (And (ManyThen bytes Told) (star ∷ ts)) (λ text. And Told (star ∷ ts) text ⊎ And (ManyThen bytes Told) ts text)
many_short bytes Told ts [] a = ([], inl a, omega arith)
many_short bytes Told ts (b ∷ rest) a = elim a.0 [
  | inl here ↦ (b ∷ rest, inl (here, a.1), omega arith)
  | inr later ↦ elim (star_step ts b rest a.1) [
    | inl passed ↦ (b ∷ rest, inr (inr later, passed), omega arith)
    | inr taken ↦
        let s : (short : List ℕ) × (And Told (star ∷ ts) short ⊎ And (ManyThen bytes Told) ts short) × (length short ≤ length rest) = many_short bytes Told ts rest (later.1, taken) in
        (s.0, s.1, omega (arith, s.2))
  ]
]

many_star : (bytes : ByteSet) (Told : List ℕ → Type 0) (ts : List Token) (here next : Text) → Least (And Told (star ∷ ts)) here → Least (And (ManyThen bytes Told) ts) next → Least (And (ManyThen bytes Told) (star ∷ ts)) (shorter here next)
many_star bytes Told ts here next l k =
    least_of (λ text. And Told (star ∷ ts) text ⊎ And (ManyThen bytes Told) ts text) (And (ManyThen bytes Told) (star ∷ ts)) _ from (many_short bytes Told ts)
    (least_either (And Told (star ∷ ts)) (And (ManyThen bytes Told) ts) here next l k)
  where
    from : (text : List ℕ) → (And Told (star ∷ ts) text ⊎ And (ManyThen bytes Told) ts text) → And (ManyThen bytes Told) (star ∷ ts) text
    from text h = elim h [
      | inl passed ↦ (many_none bytes Told text passed.0, passed.1)
      | inr a ↦ (a.0, star_nothing ts text a.1)
    ]

many_cell_least : (bytes : ByteSet) (Told : List ℕ → Type 0) (t : Token) (ts : List Token) (here next : Text) → Least (And Told (t ∷ ts)) here → Least (And (ManyThen bytes Told) ts) next
    → Least (And (ManyThen bytes Told) (t ∷ ts)) (spec.many_cell (is_star t) (byte_for t bytes) here next)
many_cell_least bytes Told star ts here next l k = many_star bytes Told ts here next l k
many_cell_least bytes Told one ts here next l k = many_single bytes Told one ts here next refl l k
many_cell_least bytes Told (literal own) ts here next l k = many_single bytes Told (literal own) ts here next refl l k
many_cell_least bytes Told (bracket class) ts here next l k = many_single bytes Told (bracket class) ts here next refl l k

-- ---- rows: each cell has the shortest text from its place on
abbrev pub Row : (List ℕ → Type 0) → List Token → List Text → Type 0
Row Told [] row = Least (And Told []) (first row)
Row Told (t ∷ ts) row = Least (And Told (t ∷ ts)) (first row) × Row Told ts (others row)

pub first_least : (Told : List ℕ → Type 0) (ts : List Token) (row : List Text) → Row Told ts row → Least (And Told ts) (first row)
first_least Told [] row k = k
first_least Told (t ∷ ts) row k = k.0

no_byte : (bytes : ByteSet) (Told : List ℕ → Type 0) (text : List ℕ) → And (ByteThen bytes Told) [] text → ⊥
no_byte bytes Told [] a = a.0
no_byte bytes Told (b ∷ rest) a = let clash : b ∷ rest ≡ [] = a.1 in cc

byte_least : (bytes : ByteSet) (Told : List ℕ → Type 0) (ts : List Token) (row : List Text) → Row Told ts row → Row (ByteThen bytes Told) ts (spec.byte_texts bytes ts row)
unfolding spec.byte_texts
byte_least bytes Told [] row k = no_byte bytes Told
byte_least bytes Told (t ∷ ts) row k =
    let more : Row (ByteThen bytes Told) ts (spec.byte_texts bytes ts (others row)) = byte_least bytes Told ts (others row) k.1 in (
      byte_cell_least bytes Told t ts (first row) (first (others row)) (first (spec.byte_texts bytes ts (others row))) k.0 (first_least Told ts (others row) k.1)
          (first_least (ByteThen bytes Told) ts (spec.byte_texts bytes ts (others row)) more),
      more,
    )

none_more : (bytes : ByteSet) (Told : List ℕ → Type 0) (text : List ℕ) → And (ManyThen bytes Told) [] text → And Told [] text
none_more bytes Told [] a = a
none_more bytes Told (b ∷ rest) a = absurd (let clash : b ∷ rest ≡ [] = a.1 in cc)

many_least : (bytes : ByteSet) (Told : List ℕ → Type 0) (ts : List Token) (row : List Text) → Row Told ts row → Row (ManyThen bytes Told) ts (spec.many_texts bytes ts row)
unfolding spec.many_texts
many_least bytes Told [] row k = least_same (And Told []) (And (ManyThen bytes Told) []) (first row) (λ text a. (many_none bytes Told text a.0, a.1)) (none_more bytes Told) k
many_least bytes Told (t ∷ ts) row k =
    let more : Row (ManyThen bytes Told) ts (spec.many_texts bytes ts (others row)) = many_least bytes Told ts (others row) k.1 in (
      many_cell_least bytes Told t ts (first row) (first (spec.many_texts bytes ts (others row))) k.0
          (first_least (ManyThen bytes Told) ts (spec.many_texts bytes ts (others row)) more),
      more,
    )

fixed_least : (own : List ℕ) (Told : List ℕ → Type 0) (ts : List Token) (row : List Text) → Row Told ts row → Row (FixedThen own Told) ts (spec.fixed_texts own ts row)
unfolding spec.fixed_texts
fixed_least [] Told ts row k = k
fixed_least (b ∷ more) Told ts row k = byte_least (Only b) (FixedThen more Told) ts (spec.fixed_texts more ts row) (fixed_least more Told ts row k)

counted_least : (bytes : ByteSet) (n : ℕ) (Told : List ℕ → Type 0) (ts : List Token) (row : List Text) → Row Told ts row → Row (CountedThen bytes n Told) ts (spec.counted_texts bytes n ts row)
unfolding spec.counted_texts
counted_least bytes zero Told ts row k = k
counted_least bytes (suc n) Told ts row k = byte_least bytes (CountedThen bytes n Told) ts (spec.counted_texts bytes n ts row) (counted_least bytes n Told ts row k)

piece_least : (piece : Piece) (Told : List ℕ → Type 0) (ts : List Token) (row : List Text) → Row Told ts row → Row (PieceThen piece Told) ts (spec.piece_texts piece ts row)
piece_least (fixed own) Told ts row k = fixed_least own Told ts row k
piece_least (counted bytes n) Told ts row k = counted_least bytes n Told ts row k
piece_least (repeated bytes) Told ts row k = many_least bytes Told ts row k

pieces_least : (pieces : List Piece) (Told : List ℕ → Type 0) (ts : List Token) (row : List Text) → Row Told ts row → Row (PiecesThen pieces Told) ts (spec.pieces_texts pieces ts row)
unfolding spec.pieces_texts
pieces_least [] Told ts row k = k
pieces_least (piece ∷ more) Told ts row k = piece_least piece (PiecesThen more Told) ts (spec.pieces_texts more ts row) (pieces_least more Told ts row k)

either_cell : (Told Other : List ℕ → Type 0) (ts : List Token) (x y : Text) → Least (And Told ts) x → Least (And Other ts) y → Least (And (λ text. Told text ⊎ Other text) ts) (shorter x y)
either_cell Told Other ts x y l k = least_same (λ text. And Told ts text ⊎ And Other ts text) (And (λ text. Told text ⊎ Other text) ts) _ from to (least_either (And Told ts) (And Other ts) x y l k)
  where
    from : (text : List ℕ) → (And Told ts text ⊎ And Other ts text) → And (λ text. Told text ⊎ Other text) ts text
    from text h = elim h [ inl here ↦ (inl here.0, here.1) | inr there ↦ (inr there.0, there.1) ]

    to : (text : List ℕ) → And (λ text. Told text ⊎ Other text) ts text → And Told ts text ⊎ And Other ts text
    to text a = elim a.0 [ inl here ↦ inl (here, a.1) | inr there ↦ inr (there, a.1) ]

either_least : (Told Other : List ℕ → Type 0) (ts : List Token) (row other : List Text) → Row Told ts row → Row Other ts other → Row (λ text. Told text ⊎ Other text) ts (spec.either_texts ts row other)
unfolding spec.either_texts
either_least Told Other [] row other k o = either_cell Told Other [] (first row) (first other) k o
either_least Told Other (t ∷ ts) row other k o =
    (either_cell Told Other (t ∷ ts) (first row) (first other) k.0 o.0, either_least Told Other ts (others row) (others other) k.1 o.1)

none_least : (ts : List Token) → Row (λ text. ⊥) ts (spec.no_texts ts)
unfolding spec.no_texts
none_least [] = λ other a. a.0
none_least (t ∷ ts) = (λ other a. a.0, none_least ts)

field_least : (field : List (List Piece)) (Told : List ℕ → Type 0) (ts : List Token) (row : List Text) → Row Told ts row → Row (FieldThen field Told) ts (spec.field_texts field ts row)
unfolding spec.field_texts
field_least [] Told ts row k = none_least ts
field_least (way ∷ more) Told ts row k =
    either_least (PiecesThen way Told) (FieldThen more Told) ts (spec.pieces_texts way ts row) (spec.field_texts more ts row)
    (pieces_least way Told ts row k) (field_least more Told ts row k)

-- the end of the text
abbrev pub Ends : List ℕ → Type 0
Ends text = text ≡ []

end_single : (t : Token) (ts : List Token) (text : List ℕ) → is_star t ≡ false → And Ends (t ∷ ts) text → ⊥
end_single t ts text s a = single_empty t ts s (subst (λ (x : List ℕ). Matches (t ∷ ts) x) a.0 a.1)

end_star : (ts : List Token) (text : List ℕ) → And Ends (star ∷ ts) text → And Ends ts text
end_star ts text a = (a.0, subst (λ (x : List ℕ). Matches ts x) (sym a.0) (star_empty ts (subst (λ (x : List ℕ). Matches (star ∷ ts) x) a.0 a.1)))

end_cell : (t : Token) (ts : List Token) (next : Text) → Least (And Ends ts) next → Least (And Ends (t ∷ ts)) (if is_star t then next else None)
end_cell star ts next k = least_same (And Ends ts) (And Ends (star ∷ ts)) next (λ text a. (a.0, star_nothing ts text a.1)) (end_star ts) k
end_cell one ts next k = λ text a. end_single one ts text refl a
end_cell (literal own) ts next k = λ text a. end_single (literal own) ts text refl a
end_cell (bracket class) ts next k = λ text a. end_single (bracket class) ts text refl a

end_least : (ts : List Token) → Row Ends ts (spec.end_texts ts)
unfolding spec.end_texts
end_least [] = ((refl, refl), λ other a. omega arith)
end_least (t ∷ ts) = (end_cell t ts (first (spec.end_texts ts)) (first_least Ends ts (spec.end_texts ts) (end_least ts)), end_least ts)

fields_least : (fields : List (List (List Piece))) (ts : List Token) → Row (Fields fields) ts (spec.fields_texts fields ts)
unfolding spec.fields_texts
fields_least [] ts = end_least ts
fields_least (field ∷ more) ts = field_least field (Fields more) ts (spec.fields_texts more ts) (fields_least more ts)

-- ---- forms
form_least : (form : Form) (ts : List Token) → Least (And (Fits form) ts) (spec.text_in ts form)
form_least form ts =
    first_least (Fits form) ts (spec.fixed_texts form.prefix ts (spec.fields_texts form.fields ts))
    (fixed_least form.prefix (Fields form.fields) ts (spec.fields_texts form.fields ts) (fields_least form.fields ts))

pub among_least : (forms : List Form) (ts : List Token) → Least (And (HasOneOf forms) ts) (spec.text_among forms ts)
unfolding spec.text_among
among_least [] ts = λ other a. a.0
among_least (form ∷ more) ts =
    either_cell (HasForm form) (HasOneOf more) ts (spec.text_in ts form) (spec.text_among more ts)
    (least_same (And (Fits form) ts) (And (HasForm form) ts) (spec.text_in ts form) (λ text a. (form_out form text a.0, a.1)) (λ text a. (form_in form text a.0, a.1)) (form_least form ts))
    (among_least more ts)

-- a form that the tokens don't meet has none
pub no_text : (form : Form) (ts : List Token) → meets_form ts form ≡ false → None ≡ spec.text_in ts form
no_text form ts e = by_cell (spec.text_in ts form) (form_least form ts)
  where
    by_cell : (x : Text) → Least (And (Fits form) ts) x → None ≡ x
    by_cell None l = refl
    by_cell (Some text) l = absurd (let met : IsTrue (meets_form ts form) = (form_met form ts).1 (text, l.0.0, l.0.1) in let clash : false ≡ true = sym e ∙ met in cc)

-- ---- what the laws say
pub texts_fit : TextsFit
texts_fit forms ts text e = (subst (Least (And (HasOneOf forms) ts)) e (among_least forms ts)).0

pub texts_found : TextsAreFound
texts_found forms ts m = by_cell (spec.text_among forms ts) refl (among_least forms ts)
  where
    by_cell : (x : Text) → spec.text_among forms ts ≡ x → Least (And (HasOneOf forms) ts) x → (text : List ℕ) × (spec.text_among forms ts ≡ Some text)
    by_cell None e l = absurd (l m.0 (m.1, m.2))
    by_cell (Some text) e l = (text, e)

pub texts_shortest : TextsAreShortest
texts_shortest forms ts text other e h m = (subst (Least (And (HasOneOf forms) ts)) e (among_least forms ts)).1 other (h, m)
