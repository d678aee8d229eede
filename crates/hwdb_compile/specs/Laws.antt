-- What the laws say of surviving assignments.
use Rattle.std.specs.Prelude.{List, ◌≡◌, ◌⊎◌, Some, ℕ, ◌<◌, ◌≤◌, ◌↔◌, All, Contains, IsSome}
use Rattle.hwdb_spec.specs.Assignment.{Assignment}
use Rattle.hwdb_spec.specs.Tree.{map_of_files, entry_of}
use Rattle.hwdb_spec.specs.Folders.{Source, all_assignments}
use Rattle.hwdb_spec.specs.Last.{IsLast, IsLatest}
use Rattle.std.specs.FinMap as finite

-- it comes no later: its file has a smaller priority, or an equal one and its line is no greater
abbrev pub IsEarlier : Assignment → Assignment → Type 0
IsEarlier a s =
    (a.position.priority < s.position.priority) ⊎ ((a.position.priority ≡ s.position.priority) × (a.position.line ≤ s.position.line))

-- Of the assignments with one pattern and key that the files have, none comes later than the one in the map.
abbrev pub SurvivorsAreLatest : Type 0
SurvivorsAreLatest =
    (etc usr : List Source) (place : List ℕ × List ℕ) (s : Assignment) → finite.get (map_of_files etc usr) place ≡ Some s
    → All (λ a. (entry_of a).0 ≡ place → IsEarlier a s) (all_assignments etc usr)

-- What the map has at a pattern and key is one of the assignments with them.
abbrev pub SurvivorsAreAssigned : Type 0
SurvivorsAreAssigned =
    (etc usr : List Source) (place : List ℕ × List ℕ) (s : Assignment) → finite.get (map_of_files etc usr) place ≡ Some s
    → (a : Assignment) × Contains (all_assignments etc usr) a × (entry_of a ≡ (place, s))

-- The map has something at the pattern and key of each assignment.
abbrev pub EachPlaceSurvives : Type 0
EachPlaceSurvives = (etc usr : List Source) → All (λ a. IsSome (finite.get (map_of_files etc usr) (entry_of a).0)) (all_assignments etc usr)

-- Of all that the files assign, the last one of a pattern and key is the latest by priority and line.
abbrev pub LastIsLatest : Type 0
LastIsLatest = (etc usr : List Source) (a : Assignment) → IsLast (all_assignments etc usr) a ↔ IsLatest (all_assignments etc usr) a
