-- Assignments gone through from the last to the first, and the last one with each pattern and key.
use Rattle.std.specs.Prelude.{◌≡◌, List, ℕ, Option, ◌∷◌, map, option_map, reverse}
use Rattle.std.specs.BTreeMap.{BTreeMap, get_by}
use Rattle.std.specs.Borrow.{Bor}
use Rattle.std.specs.Cmp.Lexicographic.{slice_cmp}
use Rattle.std.specs.Ordering.{nat_cmp, ordering_then}
use Rattle.hwdb_spec.specs.Assignment.{Assignment}
use Rattle.hwdb_spec_commands.specs.Replacements.{last_like, replacements}
use Rattle.hwdb_near.specs.Views.{assignment_of, replacement_of}
use Rattle.hwdb_near.specs.declared.replacements.Replaced.{Replaced}
use Rattle.hwdb_near.specs.declared.wanted.FileAssignment.{FileAssignment}

abbrev pub Last : Type 0
Last = BTreeMap (Bor (List ℕ) × Bor (List ℕ)) FileAssignment

-- what the map has with the pattern and the key of an assignment
abbrev pub last_at : Last → Assignment → Option Assignment
last_at last a =
    option_map assignment_of
    (get_by (λ q. ordering_then (slice_cmp nat_cmp a.position.pattern q.0.now) (slice_cmp nat_cmp a.position.key q.1.now)) last)

-- the map has the last of some assignments with each pattern and key
abbrev pub AreLastOf : List Assignment → Last → Type 0
AreLastOf all last = (a : Assignment) → last_at last a ≡ last_like a all

-- the map and the pairs, which are from the last to the first, are those of some assignments
pub record AreTaken (all : List Assignment) (last : Last) (pairs : List Replaced) : Type 0 where
  pub lasts : AreLastOf all last
  pub replaced : reverse (map replacement_of pairs) ≡ replacements all

-- they were those of some assignments, and then they are those of one more before these
abbrev pub Takes : (last : Last) (pairs : List Replaced) → FileAssignment → (last_now : Last) (pairs_now : List Replaced) → Type 0
Takes last pairs w last_now pairs_now =
    (all : List Assignment) → AreTaken all last pairs → AreTaken (assignment_of w ∷ all) last_now pairs_now
