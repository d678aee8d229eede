-- Which patterns `near` compares with a device: those of the text files that its words name. Without one it takes those of the
-- database that is asked. And what it prints of them. Our choice.
use Rattle.std.specs.Prelude.{Bool, false, true, ℕ, List, [], ◌∷◌, ◌++◌, ◌+◌, Option, None, Some, if◌then◌else◌, map}
use Rattle.std.specs.Ordering.{is_lt, nat_cmp, ordering_then}
use Rattle.hwdb_spec.specs.Assignment.{Assignment}
use Rattle.hwdb_spec.specs.Folders.{Source, same}
use Rattle.hwdb_spec_commands.specs.Near.{PatternAt, near_json, near_text, patterns_in}
use Rattle.hwdb_spec.specs.Tree.{Tree, members_under}

-- ---- the patterns of text files

-- the match lines of some text files, the place of each file one more than that of the one before
abbrev pub patterns_from : (file : ℕ) → List Source → List PatternAt
patterns_from file [] = []
patterns_from file (source ∷ more) = patterns_in source.name file source.bytes ++ patterns_from (file + 1) more

-- ---- the patterns of a database

-- the pattern of an assignment, at the file and line of its property, as `explain` prints them
abbrev pub pattern_of : Assignment → PatternAt
pattern_of a = record { path = a.path; file = a.position.priority; line = a.position.line; pattern = a.position.pattern }

-- whether a place comes before another one: by the priority of the file and the line
abbrev pub is_before : PatternAt → PatternAt → Bool
is_before a b = is_lt (ordering_then (nat_cmp a.file b.file) (nat_cmp a.line b.line))

-- One more before some patterns. If the first of them has the same text, the two are one, at the place that comes first.
abbrev pub gather : PatternAt → List PatternAt → List PatternAt
gather at [] = at ∷ []
gather at (next ∷ more) =
    if same at.pattern next.pattern then (if is_before next at then next else at) ∷ more
    else at ∷ next ∷ more

-- patterns in order, each once, at the first of its places
abbrev pub gathered : List PatternAt → List PatternAt
gathered [] = []
gathered (at ∷ more) = gather at (gathered more)

-- the patterns of a database, in order, each at the first file and line that gives it a property
abbrev pub database_patterns : Tree → List PatternAt
database_patterns tree = gathered (map pattern_of (members_under [] tree))

-- ---- what is printed

-- how many of the nearest are told, unless a number is given
abbrev pub told_nearest : ℕ
told_nearest = 3

-- how many are told, by the number that is given, if there is one
abbrev pub near_limit : Option ℕ → ℕ
near_limit None = told_nearest
near_limit (Some limit) = limit

-- what is printed, as text or with `--json`
abbrev pub near_form : (json : Bool) → (device : List ℕ) (limit : ℕ) → List PatternAt → List ℕ
near_form false = near_text
near_form true = near_json
