-- Strings with their numbers (our choice: a sort takes the numbers along).
use Rattle.std.specs.Prelude.{List, [], ℕ, ◌∷◌, ◌++◌, ◌+◌, ◌^◌, ◌-◌, ◌<◌, ◌≡◌, cond, drop, length, get_or, map, min, nat_eq, false}
use Rattle.std.specs.List.{dedup}
use Rattle.std.specs.Cmp.Lexicographic.{pointwise}
use Rattle.hwdb_spec.specs.Assignment.{ascending}
use Rattle.hwdb_spec.specs.Written.{section_of, place_of}
use Rattle.hwdb_writer.specs.Internal.Word.{Word, word_of}
use Rattle.hwdb_writer.specs.declared.strings.StringTable.{StringTable}

-- the strings without their numbers
abbrev pub texts : List Word → List (List ℕ)
texts = map word_of

-- each has its place in the list as its number
abbrev pub IsNumbered : List Word → Type 0
IsNumbered ws = (i : ℕ) (d : Word) → i < length ws → (get_or ws i d).number ≡ i

-- the string at i isn't the one before it
abbrev pub IsNew : List (List ℕ) → ℕ → Type 0
IsNew ts i = (k : ℕ) → i ≡ k + 1 → pointwise nat_eq (get_or ts i []) (get_or ts k []) ≡ false

-- it is the one before it
pub record IsOld (ts : List (List ℕ)) (i : ℕ) : Type 0 where
  pub before : ℕ
  pub is : i ≡ before + 1
  pub same : get_or ts i [] ≡ get_or ts before []

-- strings in order, each once
abbrev pub distinct : List (List ℕ) → List (List ℕ)
distinct = dedup (pointwise nat_eq)

-- the offset of a string of the table, the first of which is at `first`, or the greatest number if it is greater
abbrev pub bounded_place : ℕ → List (List ℕ) → List ℕ → ℕ
bounded_place first table s = min (place_of first table s) (2 ^ 64 - 1)

-- where the section of the table ends, or the greatest number
abbrev pub bounded_end : ℕ → List (List ℕ) → ℕ
bounded_end first table = min (first + length (section_of table)) (2 ^ 64 - 1)

-- the offset of each string by its number, and the offset at which they end; the strings are in order
pub record IsFilled (first : ℕ) (words ordered : List Word) (places : List ℕ) (end : ℕ) : Type 0 where
  pub placed : places ≡ map (bounded_place first (distinct (texts ordered))) (texts words)
  pub ended : end ≡ bounded_end first (distinct (texts ordered))

-- the section of the strings, the offset of each by its number, and the offset at which they end
pub record IsTable (first : ℕ) (words : List (List ℕ)) (t : StringTable) : Type 0 where
  pub section : t.section.items ≡ section_of (ascending words)
  pub places : t.places.items ≡ map (bounded_place first (ascending words)) words
  pub ended : t.end ≡ bounded_end first (ascending words)

-- what is known after the first i of the strings in order
pub record IsReached (first : ℕ) (ts : List (List ℕ)) (i start end : ℕ) : Type 0 where
  pub begun : i ≡ 0 → end ≡ first
  pub started : (k : ℕ) → i ≡ k + 1 → start ≡ bounded_place first (distinct ts) (get_or ts k [])
  pub ended : (k : ℕ) → i ≡ k + 1 → end ≡ min (place_of first (distinct ts) (get_or ts k []) + length (get_or ts k []) + 1) (2 ^ 64 - 1)

-- the offsets of the first i are filled in
abbrev pub IsFilledTo : ℕ → List Word → List ℕ → ℕ → Type 0
IsFilledTo first ordered places i =
    (j : ℕ) (d : Word) → j < i → get_or places (get_or ordered j d).number 0 ≡ bounded_place first (distinct (texts ordered)) (get_or ordered j d).word

-- what comes after the string that was kept last, each once
unfoldable pub left_after : List ℕ → List (List ℕ) → List (List ℕ)
left_after kept [] = []
left_after kept (t ∷ ts) = cond (pointwise nat_eq t kept) (left_after kept ts) (t ∷ left_after t ts)

-- the first i of the strings in order are in the section, each once
pub record IsSectioned (old : List ℕ) (ts : List (List ℕ)) (i : ℕ) (now : List ℕ) : Type 0 where
  pub begun : i ≡ 0 → now ≡ old
  pub gone_on : (k : ℕ) → i ≡ k + 1 → now ++ section_of (left_after (get_or ts k []) (drop i ts)) ≡ old ++ section_of (distinct ts)
