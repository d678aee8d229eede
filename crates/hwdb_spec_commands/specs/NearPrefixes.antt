-- Of some strings with a prefix and of some patterns with it the two that are nearest: what `device` ends with. Our choice.
use Rattle.std.specs.Prelude.{Bool, ℕ, List, [], ◌∷◌, Option, None, Some, filter, if◌then◌else◌, map, nat_eq, nat_lt}
use Rattle.std.specs.FinMap as finite
use Rattle.std.specs.List.{starts_with}
use Rattle.std.specs.Option.{option_map_or}
use Rattle.hwdb_spec.specs.Assignment.{Assignment}
use Rattle.hwdb_spec.specs.Folders.{Source}
use Rattle.hwdb_spec_commands.specs.Near.{PatternAt, Rated, near_report, nearest}
use Rattle.hwdb_spec_commands.specs.NearAsked.{gathered, pattern_of}
use Rattle.hwdb_spec.specs.Tree.{Map, map_of_files}

-- a string, and the nearest pattern to it
pub record Close : Type 0 where
  pub text : List ℕ
  pub near : Rated

-- Of two that are found before and now the one that misses fewer literals; of two that miss as many the one before. The list has the
-- nearest pattern to the string, if there is one.
abbrev pub closer : (before : Option Close) → (text : List ℕ) → (now : List Rated) → Option Close
closer before text [] = before
closer None text (r ∷ rest) = Some (record { text = text; near = r })
closer (Some c) text (r ∷ rest) = if nat_lt r.missing c.near.missing then Some (record { text = text; near = r }) else Some c

-- the closest of what was found before, and of some strings each with the nearest pattern to it
unfoldable pub closest_after : List PatternAt → (before : Option Close) → (texts : List (List ℕ)) → Option Close
closest_after patterns before [] = before
closest_after patterns before (text ∷ more) = closest_after patterns (closer before text (nearest text 1 patterns)) more

-- the report of the closest pattern to one of some strings; empty if there is none
abbrev pub closest_report : List PatternAt → (texts : List (List ℕ)) → List ℕ
closest_report patterns texts = option_map_or (λ (c : Close). near_report c.text c.near) (closest_after patterns None texts) []

-- whether a text begins with a prefix
abbrev pub has_prefix : (prefix text : List ℕ) → Bool
has_prefix prefix text = starts_with nat_eq text prefix

-- whether a pattern does
abbrev pub is_below : (prefix : List ℕ) → PatternAt → Bool
is_below prefix at = has_prefix prefix at.pattern

-- the report of the patterns and strings that do
abbrev pub prefix_report : List PatternAt → (texts : List (List ℕ)) → (prefix : List ℕ) → List ℕ
prefix_report patterns texts prefix = closest_report (filter (is_below prefix) patterns) (filter (has_prefix prefix) texts)

-- the assignments of a map, by pattern and key
abbrev pub assignments_of : Map → List Assignment
assignments_of m = map (λ e. e.1) (finite.entries m)

-- the patterns of the database of some files, in order
abbrev pub files_patterns : (etc usr : List Source) → List PatternAt
files_patterns etc usr = gathered (map pattern_of (assignments_of (map_of_files etc usr)))
