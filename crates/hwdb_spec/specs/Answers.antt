-- The answers for a device, said of the plain list of all assignments. By hwdb(7) the last assignment with a pattern
-- and key counts, and for each key the last of those whose pattern matches. That the order goes on by pattern and key,
-- and that the effective list ascends by key, is our choice.
use Rattle.std.specs.Prelude.{Bool, List, ℕ, None, Option, Some, true, false, if◌then◌else◌, [], ◌∷◌, filter, map, find, reverse}
use Rattle.std.specs.Ordering.{is_lt, is_eq}
use Rattle.std.specs.List.{list_any}
use Rattle.hwdb_spec.specs.Patterns.{matches, tokens}
use Rattle.hwdb_spec.specs.Assignment.{Assignment, Position, position_cmp, assignment_cmp, in_order, text_cmp}
use Rattle.hwdb_spec.specs.Folders.{same}

-- whether a pattern matches a device
abbrev pub is_match : List ℕ → List ℕ → Bool
is_match device pattern = matches (tokens pattern) device

-- whether the pattern of an assignment matches a device
abbrev pub is_wanted : List ℕ → Assignment → Bool
is_wanted device f = is_match device f.position.pattern

-- whether a position is greater than the one given, if one is given
unfoldable pub is_after : Option Position → Position → Bool
is_after None position = true
is_after (Some after) position = is_lt (position_cmp after position)

-- whether the position of an assignment is greater than the one given, if one is given
abbrev pub is_behind : Option Position → Assignment → Bool
is_behind after f = is_after after f.position

-- whether two assignments have the same pattern and the same key
abbrev pub is_same_place : Assignment → Assignment → Bool
is_same_place a b = if same a.position.pattern b.position.pattern then same a.position.key b.position.key else false

-- the assignments that no later one of the list with the same pattern and key follows (hwdb(7))
unfoldable pub last_of_each : List Assignment → List Assignment
last_of_each [] = []
last_of_each (a ∷ more) = if list_any (is_same_place a) more then last_of_each more else a ∷ last_of_each more

-- the last assignment of each pattern and key whose pattern matches the device, by priority, line, pattern and key
unfoldable pub last_matching : List ℕ → List Assignment → List Assignment
last_matching device all = in_order assignment_cmp (filter (is_wanted device) (last_of_each all))

-- those after a position
unfoldable pub last_assignments : List ℕ → Option Position → List Assignment → List Assignment
last_assignments device after all = filter (is_behind after) (last_matching device all)

-- the key of an answer
abbrev pub key_of_answer : Assignment → List ℕ
key_of_answer f = f.position.key

-- whether an answer has a key
abbrev pub has_key : List ℕ → Assignment → Bool
has_key key f = is_eq (text_cmp key f.position.key)

-- the value of an answer; nothing if there is none
abbrev pub value_or_none : Option Assignment → List ℕ
value_or_none (Some f) = f.value
value_or_none None = []

-- the value of the last of the answers with a key
unfoldable pub last_value : List Assignment → List ℕ → List ℕ
last_value answers key = value_or_none (find (has_key key) (reverse answers))

-- for each key among the answers the value of the last answer with that key, ascending by key
unfoldable pub effective_of : List Assignment → List (List ℕ × List ℕ)
effective_of answers = map (λ key. (key, last_value answers key)) (in_order text_cmp (map key_of_answer answers))
