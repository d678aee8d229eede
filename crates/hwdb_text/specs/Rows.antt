-- The definitions at worked rows, each a table of what is given and what it gives. Byte 97 is `a`.
use Rattle.std.specs.Prelude.{ℕ, List, [], codes, replicate, ◌++◌, ◌∷◌, map, ◌≡◌, true, false}
use Rattle.hwdb_spec.specs.declared.Fault.{Fault}
use Rattle.hwdb_spec.specs.declared.FaultKind.{FaultKind}
use Rattle.hwdb_spec.specs.declared.FaultKind.TheVariants.{EmptyKey, LongMatch, NoEquals, NoProperty, StrayMatch, StrayProperty, ZeroByte}
use Rattle.hwdb_spec.specs.Records.{faults, Origin, assignments}
use Rattle.hwdb_text.specs.Views.{origin, given}
use Rattle.hwdb_spec.specs.Assignment.{Assignment}
use Rattle.hwdb_spec.specs.Folders.{Choice, choice, path_of}

abbrev pub at : ℕ → FaultKind → Fault
at number kind = record { line = number; kind = kind }

-- a file, and its faults
abbrev pub fault_rows : List (List ℕ × List Fault)
fault_rows =
    (codes " S=1\na\n K=1\n NOEQ\n =v\nb\n\nc\n", at 1 StrayProperty ∷ at 4 NoEquals ∷ at 5 EmptyKey ∷ at 6 StrayMatch ∷ at 8 NoProperty ∷ [])
    ∷ (codes "a\n  K= v  # note\n L=\n M=1\r\n", [])
    ∷ (codes "a\n K=1\n# note\n L=2\n", [])
    ∷ (codes "a\n K=1\n # note\n L=2\n", at 4 StrayProperty ∷ [])
    ∷ (codes "a\n K=1" ++ (0 ∷ codes "\n"), at 1 NoProperty ∷ at 2 ZeroByte ∷ [])
    ∷ (codes "a\nb\n", at 1 NoProperty ∷ [])
    ∷ (replicate 4096 97 ++ codes "\n K=1\n", [])
    ∷ (replicate 4097 97 ++ codes "\n K=1\n", at 1 LongMatch ∷ [])
    ∷ (replicate 4097 97, at 1 NoProperty ∷ at 1 LongMatch ∷ [])
    ∷ (codes "a\n K=1\n" ++ replicate 4097 97, at 3 StrayMatch ∷ at 3 LongMatch ∷ [])
    ∷ (codes "a\n K=1\nb\n\nc\n L\n", at 3 StrayMatch ∷ at 6 NoEquals ∷ [])
    ∷ []

abbrev pub FaultRows : Type 0
FaultRows = map (λ row. faults (row.0)) fault_rows ≡ map (λ row. row.1) fault_rows

abbrev pub here : Origin
here = origin (codes "P") 7

-- a file, and its assignments
abbrev pub assignment_rows : List (List ℕ × List Assignment)
assignment_rows =
    (codes "x*\nx?\n K=1\n", given here 3 (codes "K") (codes "1") (codes "x*") ∷ given here 3 (codes "K") (codes "1") (codes "x?") ∷ [])
    ∷ (codes "x\nx\n K=1\n", given here 3 (codes "K") (codes "1") (codes "x") ∷ given here 3 (codes "K") (codes "1") (codes "x") ∷ [])
    ∷ (codes " S=1\na\n K=1\n NOEQ\n =v\nb\n\nc\n", given here 3 (codes "K") (codes "1") (codes "a") ∷ [])
    ∷ (
      codes "a\n  K= v  # note\n L=\n M=1\r\n",
      given here 2 (codes "K") (codes " v") (codes "a") ∷ given here 3 (codes "L") [] (codes "a") ∷ given here 4 (codes "M") (codes "1") (codes "a") ∷ [],
    )
    ∷ (codes "a\n K=1\n# note\n L=2\n", given here 2 (codes "K") (codes "1") (codes "a") ∷ given here 4 (codes "L") (codes "2") (codes "a") ∷ [])
    ∷ (codes "a\n K=1\n # note\n L=2\n", given here 2 (codes "K") (codes "1") (codes "a") ∷ [])
    ∷ (codes "a\n K=1" ++ (0 ∷ codes "\n"), [])
    ∷ (replicate 4096 97 ++ codes "\n K=1\n", given here 2 (codes "K") (codes "1") (replicate 4096 97) ∷ [])
    ∷ (replicate 4097 97 ++ codes "\n K=1\n", [])
    ∷ []

abbrev pub AssignmentRows : Type 0
AssignmentRows = map (λ row. assignments here (row.0)) assignment_rows ≡ map (λ row. row.1) assignment_rows

abbrev pub from_etc : List ℕ → ℕ → Choice
from_etc name priority = record { from_etc = true; name = name; priority = priority }

abbrev pub from_usr : List ℕ → ℕ → Choice
from_usr name priority = record { from_etc = false; name = name; priority = priority }

-- the names of the folder in /etc, those of the folder in /usr/lib, and the chosen files
abbrev pub choice_rows : List (List (List ℕ) × List (List ℕ) × List Choice)
choice_rows = (
  codes "b.hwdb" ∷ codes "a.hwdb" ∷ codes "a-b.hwdb" ∷ codes "B.hwdb" ∷ [],
  [],
  from_etc (codes "B.hwdb") 1 ∷ from_etc (codes "a-b.hwdb") 2 ∷ from_etc (codes "a.hwdb") 3 ∷ from_etc (codes "b.hwdb") 4 ∷ [],
)
    ∷ (codes ".a.hwdb" ∷ codes "a.txt" ∷ codes ".hwdb" ∷ codes "hwdb" ∷ [], codes "x.hwdb" ∷ codes "x.hwdb" ∷ [], from_usr (codes "x.hwdb") 1 ∷ [])
    ∷ (codes "20-x.hwdb" ∷ [], codes "30-y.hwdb" ∷ [], from_etc (codes "20-x.hwdb") 1 ∷ from_usr (codes "30-y.hwdb") 2 ∷ [])
    ∷ (codes "30-y.hwdb" ∷ [], codes "20-x.hwdb" ∷ [], from_usr (codes "20-x.hwdb") 1 ∷ from_etc (codes "30-y.hwdb") 2 ∷ [])
    ∷ (codes "10-a.hwdb" ∷ [], codes "10-a.hwdb" ∷ [], from_etc (codes "10-a.hwdb") 1 ∷ [])
    ∷ []

abbrev pub ChoiceRows : Type 0
ChoiceRows = map (λ row. choice (row.0) (row.1)) choice_rows ≡ map (λ row. row.2) choice_rows

-- a chosen file, and its stored path
abbrev pub path_rows : List (Choice × List ℕ)
path_rows =
    (from_etc (codes "10-a.hwdb") 1, codes "/etc/udev/hwdb.d/10-a.hwdb")
    ∷ (from_usr (codes "x.hwdb") 1, codes "/usr/lib/udev/hwdb.d/x.hwdb")
    ∷ []

abbrev pub PathRows : Type 0
PathRows = map (λ row. path_of (row.0)) path_rows ≡ map (λ row. row.1) path_rows
