-- The assignments of a database, held all at once. Their patterns are parts of one text.
use Rattle.std.specs.Prelude.{All, List, ℕ, ◌+◌, ◌≤◌, drop, length, map, take}
use Rattle.hwdb_spec.specs.Assignment.{Assignment}
use Rattle.hwdb_databases.specs.declared.holding.Held.{Held}
use Rattle.hwdb_databases.specs.declared.holding.Kept.{Kept}
use Rattle.hwdb_databases.specs.declared.holding.Slot.{Slot}
use Rattle.hwdb_databases.specs.declared.records.Shown.{Shown}
use Rattle.hwdb_databases.specs.Internal.Meeting.{member_of}

-- an assignment whose pattern is a part of a text
abbrev pub held_in : (patterns : List ℕ) → Held → Assignment
held_in patterns h = member_of (take h.length (drop h.from patterns)) h.member

-- all that are held
abbrev pub all_held : Kept → List Assignment
all_held k = map (held_in k.patterns.items) k.list.items

-- the part is within the text
abbrev pub IsWithin : (patterns : List ℕ) → Held → Type 0
IsWithin patterns h = h.from + h.length ≤ length patterns

abbrev pub AllWithin : Kept → Type 0
AllWithin k = All (IsWithin k.patterns.items) k.list.items

-- the same with the priority and the line that are beside it
abbrev pub slot_in : (patterns : List ℕ) → Slot → Assignment
slot_in patterns s = record {
  position = record { priority = s.priority; line = s.line; pattern = take s.held.now.length (drop s.held.now.from patterns); key = s.held.now.member.key.now };
  value = s.held.now.member.value.now;
  path = s.held.now.member.path.now;
}

-- an assignment that is shown with its pattern
abbrev pub shown_of : Shown → Assignment
shown_of s = member_of s.pattern.now s.member
