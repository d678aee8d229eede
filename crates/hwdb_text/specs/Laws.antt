-- More about the definitions, in words of their own.
use Rattle.std.specs.Prelude.{All, Bool, List, false, ℕ, ◌≡◌, length, map, slice_index, ◌+◌, ◌<◌, true, if◌then◌else◌, [], ◌∷◌, Contains, ◌↔◌, ◌++◌, flat_map, filter, not, ◌==◌}
use Rattle.std.specs.List.Sorted.{IsPermutation, IsStrictlySortedBy, IsNonDecreasingBy}
use Rattle.std.specs.Ordering.{is_lt}
use Rattle.hwdb_spec.specs.Assignment.{Assignment, text_cmp}
use Rattle.hwdb_spec.specs.Lines.{has, lines, Line, is_empty}
use Rattle.hwdb_spec.specs.Folders.{counts, lists, names, choice}
use Rattle.hwdb_spec.specs.Records.{all_faults, faults, fault_cmp, Origin, assignments, Section, sections_from, sections}
use Rattle.hwdb_spec.specs.declared.Fault.{Fault}

-- a line has no newline
abbrev pub LinesHoldNoNewline : Type 0
LinesHoldNoNewline = (file : List ℕ) → All (λ l. has 10 l.text ≡ false) (lines file)

-- the numbers of the lines are 1, 2, 3 and so on
abbrev pub LinesCountUp : Type 0
LinesCountUp = (file : List ℕ) (k : ℕ) → k < length (lines file) → slice_index (map (λ l. l.number) (lines file)) k ≡ k + 1

-- a name is chosen if it counts and one of the folders lists it, and no others are
abbrev pub NamesAreThoseThatCount : Type 0
NamesAreThoseThatCount = (etc usr : List (List ℕ)) (name : List ℕ)
    → lists name (names etc usr) ≡ (if counts name then (if lists name etc then true else lists name usr) else false)

-- whether a name is smaller than another, by their bytes
abbrev pub is_smaller : List ℕ → List ℕ → Bool
is_smaller m n = is_lt (text_cmp m n)

-- a name is smaller than each of some names
abbrev pub IsBelow : List ℕ → List (List ℕ) → Type 0
IsBelow name [] = Unit {0}
IsBelow name (n ∷ more) = (is_smaller name n ≡ true) × IsBelow name more

abbrev pub Ascends : List (List ℕ) → Type 0
Ascends [] = Unit {0}
Ascends (n ∷ more) = IsBelow n more × Ascends more

-- the chosen names ascend by their bytes, so that none is there twice
abbrev pub NamesAscend : Type 0
NamesAscend = (etc usr : List (List ℕ)) → Ascends (names etc usr)

-- a set of names has one ascending list
abbrev pub OneAscendingList : Type 0
OneAscendingList = (xs ys : List (List ℕ)) → Ascends xs → Ascends ys → ((name : List ℕ) → lists name xs ≡ lists name ys) → xs ≡ ys

-- the faults of a file are all that its lines and records have, each as often as they have it
abbrev pub FaultsAreAll : Type 0
FaultsAreAll = (file : List ℕ) → IsPermutation (all_faults file) (faults file)

-- they ascend by line and then by number, each below those after it, so that none is there twice
abbrev pub FaultsAscend : Type 0
FaultsAscend = (file : List ℕ) → IsStrictlySortedBy fault_cmp (faults file)

-- a set of faults has one ascending list
abbrev pub OneListOfFaults : Type 0
OneListOfFaults = (fs gs : List Fault)
    → IsStrictlySortedBy fault_cmp fs → IsStrictlySortedBy fault_cmp gs → ((f : Fault) → Contains fs f ↔ Contains gs f) → fs ≡ gs

-- the priorities are 1, 2, 3 and so on
abbrev pub PrioritiesCountUp : Type 0
PrioritiesCountUp = (etc usr : List (List ℕ)) (k : ℕ) → k < length (choice etc usr) → slice_index (map (λ c. c.priority) (choice etc usr)) k ≡ k + 1

-- the assignments of a file are in the order of their properties' lines
abbrev pub AssignmentsStandByLine : Type 0
AssignmentsStandByLine = (o : Origin) (file : List ℕ) → IsNonDecreasingBy (λ a. a.position.line) (assignments o file)

-- the assignments of one line of a file have one key and one value
abbrev pub OneValueALine : Type 0
OneValueALine = (o : Origin) (file : List ℕ) (a b : Assignment)
    → Contains (assignments o file) a → Contains (assignments o file) b → a.position.line ≡ b.position.line
    → (a.position.key ≡ b.position.key) × (a.value ≡ b.value)

-- the lines of a section
abbrev pub lines_of : Section → List Line
lines_of s = s.leading ++ (s.matches ++ (s.properties ++ s.stray))

-- the sections of a block, joined, are the block
abbrev pub SectionsAreTheBlock : Type 0
SectionsAreTheBlock = (block : List Line) → flat_map lines_of (sections_from 0 block) ≡ block

-- the sections of some clean lines, joined, are those of them that aren't empty
abbrev pub SectionsAreTheLines : Type 0
SectionsAreTheLines = (ls : List Line) → flat_map lines_of (sections ls) ≡ filter (λ l. not (is_empty l)) ls

-- a file, with a newline after its last line if it has none there
unfoldable pub ended : List ℕ → List ℕ
ended [] = []
ended (b ∷ []) = if b == 10 then b ∷ [] else b ∷ (10 ∷ [])
ended (b ∷ next ∷ rest) = b ∷ ended (next ∷ rest)

-- the lines of a file, each with a newline after it, are the file, with a newline after its last line
abbrev pub LinesAreTheFile : Type 0
LinesAreTheFile = (file : List ℕ) → flat_map (λ l. l.text ++ 10 ∷ []) (lines file) ≡ ended file
