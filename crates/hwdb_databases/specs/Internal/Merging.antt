-- Two ascending lists of assignments, gone through side by side.
use Rattle.std.specs.Prelude.{List, ℕ, Option, None, Some, [], ◌∷◌, ◌++◌, map}
use Rattle.std.specs.Ordering.{match_ordering}
use Rattle.std.specs.declared.cmp.Ordering.{Ordering}
use Rattle.hwdb_spec.specs.Assignment.{Assignment}
use Rattle.hwdb_spec.specs.Tree.{place_cmp, entry_of}
use Rattle.hwdb_spec_commands.specs.Differences.{Change, change_between}
use Rattle.hwdb_spec_commands.specs.Differences.Change.{Came, Went}

-- the pattern and key of an assignment
abbrev pub place_of : Assignment → List ℕ × List ℕ
place_of a = (entry_of a).0

-- by pattern and then by key
abbrev pub by_place : Assignment → Assignment → Ordering
by_place a b = place_cmp (place_of a) (place_of b)

-- an old assignment, those after it, and the new ones
unfoldable pub merged_from : Assignment → (List Assignment → List Change) → List Assignment → List Change
merged_from x rest [] = Went x ∷ rest []
merged_from x rest (y ∷ ys) =
    match_ordering (by_place x y) (Went x ∷ rest (y ∷ ys)) (change_between x y ++ rest ys) (Came y ∷ merged_from x rest ys)

-- the changes from an old list to a new one
unfoldable pub merged : (old new : List Assignment) → List Change
merged [] ys = map Came ys
merged (x ∷ xs) ys = merged_from x (merged xs) ys

-- what two maps have at a pattern and key
abbrev pub Both : Type 0
Both = Option Assignment × Option Assignment

abbrev pub Pairs : Type 0
Pairs = List ((List ℕ × List ℕ) × Both)

unfoldable pub paired_from : Assignment → (List Assignment → Pairs) → List Assignment → Pairs
paired_from x rest [] = (place_of x, (Some x, None)) ∷ rest []
paired_from x rest (y ∷ ys) =
    match_ordering (by_place x y) ((place_of x, (Some x, None)) ∷ rest (y ∷ ys)) ((place_of x, (Some x, Some y)) ∷ rest ys)
    ((place_of y, (None, Some y)) ∷ paired_from x rest ys)

-- for each pattern and key of two lists what each has there
unfoldable pub paired : (old new : List Assignment) → Pairs
paired [] ys = map (λ y. (place_of y, (None, Some y))) ys
paired (x ∷ xs) ys = paired_from x (paired xs) ys
