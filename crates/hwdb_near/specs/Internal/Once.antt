-- Assignments gone through from the last to the first, each once, and the set of their positions.
use Rattle.std.specs.Prelude.{◌≡◌, Bool, List, ℕ, ◌∷◌, map, reverse}
use Rattle.std.specs.BTreeSet.{BTreeSet, contains_by}
use Rattle.std.specs.Borrow.{Bor}
use Rattle.std.specs.Cmp.Lexicographic.{slice_cmp}
use Rattle.std.specs.List.{list_any}
use Rattle.std.specs.Ordering.{nat_cmp, ordering_then}
use Rattle.std.specs.declared.cmp.Ordering.{Ordering}
use Rattle.hwdb_spec.specs.Assignment.{Assignment}
use Rattle.hwdb_spec_commands.specs.Once.{is_same_assignment, once}
use Rattle.hwdb_near.specs.Views.{assignment_of}
use Rattle.hwdb_near.specs.declared.wanted.FileAssignment.{FileAssignment}

abbrev pub Place : Type 0
Place = ℕ × (ℕ × (Bor (List ℕ) × Bor (List ℕ)))

abbrev pub Seen : Type 0
Seen = BTreeSet Place

-- the order of places
abbrev pub by_position : Place → Place → Ordering
by_position p q =
    ordering_then (nat_cmp p.0 q.0)
    (ordering_then (nat_cmp p.1.0 q.1.0)
    (ordering_then (slice_cmp nat_cmp p.1.1.0.now q.1.1.0.now) (slice_cmp nat_cmp p.1.1.1.now q.1.1.1.now)))

-- the place of an assignment
abbrev pub place_of : Assignment → Place
place_of a =
    (a.position.priority, (a.position.line, (record { ref_ptr = (0, 0); now = a.position.pattern }, record { ref_ptr = (0, 0); now = a.position.key })))

-- whether the set has it
abbrev pub has_place : Seen → Assignment → Bool
has_place seen a = contains_by (by_position (place_of a)) seen

-- the set has the places of some assignments, and those that are kept, from the last to the first, are each of them once
pub record AreOnce (all : List Assignment) (seen : Seen) (kept : List FileAssignment) : Type 0 where
  pub places : (a : Assignment) → has_place seen a ≡ list_any (is_same_assignment a) all
  pub each : reverse (map assignment_of kept) ≡ once all

-- they were those of some assignments, and then they are those of one more before these
abbrev pub TakesOnce : (seen : Seen) (kept : List FileAssignment) → FileAssignment → (seen_now : Seen) (kept_now : List FileAssignment) → Type 0
TakesOnce seen kept w seen_now kept_now =
    (all : List Assignment) → AreOnce all seen kept → AreOnce (assignment_of w ∷ all) seen_now kept_now
