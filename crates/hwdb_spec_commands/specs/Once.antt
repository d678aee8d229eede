-- Some assignments, each once: what a match line gives that stands more than once in its record is counted and told once. Our choice.
use Rattle.std.specs.Prelude.{Bool, List, [], ◌∷◌, if◌then◌else◌}
use Rattle.std.specs.List.{list_any}
use Rattle.std.specs.Ordering.{is_eq}
use Rattle.hwdb_spec.specs.Assignment.{Assignment, assignment_cmp}

-- whether one line gives both to one pattern: they have the same file, line, pattern and key
abbrev pub is_same_assignment : Assignment → Assignment → Bool
is_same_assignment a b = is_eq (assignment_cmp a b)

-- Each pattern of a record once. A match line that stands twice in its record has each of its lines give the same thing twice, and
-- no line replaces itself.
unfoldable pub once : List Assignment → List Assignment
once [] = []
once (a ∷ more) = if list_any (is_same_assignment a) more then once more else a ∷ once more
