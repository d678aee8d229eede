-- What the laws say of answers, fillings and the texts of positions.
use Rattle.std.specs.Prelude.{List, [], ◌∷◌, ◌≡◌, ◌⊎◌, Some, ℕ, Option, None, ◌<◌, suc, zero, if◌then◌else◌, ◌+◌, false, length, ◌^◌, map, All, ◌≢◌}
use Rattle.std.specs.Int.{div_ceil}
use Rattle.hex.specs.Hex.{IsBytes}
use Rattle.hwdb_spec.specs.Assignment.{Assignment, assignment_cmp, Position}
use Rattle.std.specs.List.Sorted.{IsStrictlySortedBy}
use Rattle.hwdb_spec.specs.Tree.{Tree, map_of, answers_after, map_of_files, answers}
use Rattle.hwdb_spec.specs.Patterns.{Matches, tokens}
use Rattle.hwdb_spec.specs.Format.{IsDatabase}
use Rattle.hwdb_spec.specs.Folders.{Source, all_assignments}
use Rattle.hwdb_spec.specs.Answers.{last_assignments, effective_of}
use Rattle.hwdb_spec.specs.Explanations.{explained}
use Rattle.hwdb_spec.specs.Last.{AreLast}
use Rattle.hwdb_spec.specs.Written.{IsDatabaseOf}
use Rattle.hwdb_query.specs.Views.{Progress, after_next, fills}
use Rattle.hwdb_spec.specs.Texts.{IsSpelling, canonical}
use Rattle.std.specs.FinMap as finite

unfoldable pub Among : Assignment → List Assignment → Type 0
Among f [] = ⊥
Among f (x ∷ xs) = (x ≡ f) ⊎ Among f xs

-- the map of the tree has it at its pattern and key
abbrev pub IsAssigned : Tree → Assignment → Type 0
IsAssigned t f = finite.get (map_of t) (f.position.pattern, f.position.key) ≡ Some f

-- a strictly ascending list of those members of the map whose pattern matches
pub record AreAnswers (device : List ℕ) (t : Tree) (list : List Assignment) : Type 0 where
  pub ascends : IsStrictlySortedBy assignment_cmp list
  pub sound : (f : Assignment) → Among f list → IsAssigned t f × Matches (tokens f.position.pattern) device
  pub complete : (f : Assignment) → IsAssigned t f → Matches (tokens f.position.pattern) device → Among f list

-- In each tree that the bytes are a database of, the answers are the last assignments of the files.
abbrev pub AnswersAreLast : (etc usr : List Source) → (bytes : List ℕ) → Type 0
AnswersAreLast etc usr bytes =
    (t : Tree) → IsDatabase bytes t → (device : List ℕ) (after : Option Position) → answers_after device after t ≡ last_assignments device after (all_assignments etc usr)

-- It is so for bytes that are a database of the files' map.
abbrev pub CompiledAnswersAreLast : Type 0
CompiledAnswersAreLast = (etc usr : List Source) (bytes : List ℕ) → IsDatabaseOf (map_of_files etc usr) bytes → AnswersAreLast etc usr bytes

-- Without a position it is so of all answers.
abbrev pub AllCompiledAnswersAreLast : Type 0
AllCompiledAnswersAreLast =
    (etc usr : List Source) (bytes : List ℕ) → IsDatabaseOf (map_of_files etc usr) bytes
    → (t : Tree) → IsDatabase bytes t → (device : List ℕ) → answers device t ≡ last_assignments device None (all_assignments etc usr)

-- `last_assignments`, which computes, is the list that `AreLast` tells in words, of any assignments.
abbrev pub LastAssignmentsAreLast : Type 0
LastAssignmentsAreLast =
    (device : List ℕ) (after : Option Position) (all : List Assignment) → AreLast device after all (last_assignments device after all)

-- There is one such list.
abbrev pub OneListIsLast : Type 0
OneListIsLast =
    (device : List ℕ) (after : Option Position) (all xs ys : List Assignment) → AreLast device after all xs → AreLast device after all ys → xs ≡ ys

-- how many of some calls of `next` fill a page
unfoldable pub fillings : (calls : ℕ) → Progress → ℕ
fillings zero p = 0
fillings (suc calls) p = (if fills p then 1 else 0) + fillings calls (after_next p)

-- A cursor is read from its start to its end, and further. It fills a page for each `page` hits, the last one perhaps
-- not whole, and once more to find the end.
abbrev pub FillingsOfARun : Type 0
FillingsOfARun =
    (p : Progress) (calls : ℕ) → 0 < p.page → p.held ≡ 0 → p.ended ≡ false → length p.to_come < calls
    → fillings calls p ≡ div_ceil (length p.to_come) p.page + 1

-- a position that the fields of one can hold
pub record IsPosition (p : Position) : Type 0 where
  pub priority : p.priority < 2 ^ 16
  pub line : p.line < 2 ^ 32
  pub pattern : IsBytes p.pattern
  pub key : IsBytes p.key

-- A text spells one position at most.
abbrev pub SpellsOne : Type 0
SpellsOne = (p q : Position) (bytes : List ℕ) → IsSpelling p bytes → IsSpelling q bytes → p ≡ q

-- The text that is written of a position spells it.
abbrev pub CanonicalSpells : Type 0
CanonicalSpells = (p : Position) → IsPosition p → IsSpelling p (canonical p)

-- the value of the first of some answers; nothing if there is none
abbrev pub first_value : List Assignment → List ℕ
first_value [] = []
first_value (f ∷ more) = f.value

-- The first of a key's answers has the value that the effective list has for it. No key but those of that list is told.
abbrev pub ExplainedAreEffective : Type 0
ExplainedAreEffective = (answers : List Assignment) → map (λ p. (p.0, first_value p.1)) (explained answers) ≡ effective_of answers

-- Each key has an answer.
abbrev pub AllAreExplained : Type 0
AllAreExplained = (answers : List Assignment) → All (λ p. p.1 ≢ []) (explained answers)
