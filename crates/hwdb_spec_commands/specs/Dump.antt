-- A database as text of the form that hwdb(7) describes: a record for each assignment, by priority, line and pattern. Above
-- it a comment says where it comes from. And whether the text says what the database assigns. The command and its form are
-- our choice.
use Rattle.std.specs.Prelude.{Bool, false, not, codes, List, ℕ, Option, [], ◌∷◌, ◌++◌, flat_map, find, if◌then◌else◌, length, nat_le}
use Rattle.hwdb_spec.specs.Answers.{is_same_place}
use Rattle.hwdb_spec.specs.Assignment.{Assignment, assignment_cmp, in_order}
use Rattle.hwdb_spec.specs.Folders.{max_lines, same}
use Rattle.hwdb_spec.specs.Lines.{byte, is_none, lines}
use Rattle.hwdb_spec.specs.Records.{Origin, assignments, faults}
use Rattle.hwdb_spec.specs.Texts.{place_text, property_text}
use Rattle.hwdb_spec.specs.Tree.{Tree, members_under}

-- the comment above a record of `dump`: `# `, the path, `:`, the line
abbrev pub comment_text : Assignment → List ℕ
comment_text f = codes "# " ++ (place_text f.path f.position.line ++ byte "\n" ∷ [])

-- the record of an assignment: a comment, the pattern, a space with `KEY=VALUE` after it, and an empty line
abbrev pub record_text : Assignment → List ℕ
record_text f =
    comment_text f ++ (f.position.pattern ++ byte "\n" ∷ (byte " " ∷ (property_text (f.position.key, f.value) ++ byte "\n" ∷ [])))

-- the assignments of a database, by priority, line, pattern and key
unfoldable pub dumped : Tree → List Assignment
dumped t = in_order assignment_cmp (members_under [] t)

-- a database as text: the records of its assignments, one after another
abbrev pub dump_text : Tree → List ℕ
dump_text t = flat_map record_text (dumped t)

-- the path and the priority of an assignment
abbrev pub origin_of : Assignment → Origin
origin_of f = record { path = f.path; priority = f.position.priority }

-- whether some assignments are one alone, with the same pattern, key and value
abbrev pub is_alone : Assignment → List Assignment → Bool
is_alone f [] = false
is_alone f (a ∷ []) = if is_same_place a f then same a.value f.value else false
is_alone f (a ∷ b ∷ more) = false

-- whether a text without faults says an assignment and nothing else, read as a file
abbrev pub says : List ℕ → Assignment → Bool
says text f = if is_none (faults text) then is_alone f (assignments (origin_of f) text) else false

-- whether the record of an assignment has no more lines than a file may have, and says it
unfoldable pub is_said : Assignment → Bool
is_said f = if nat_le (length (lines (record_text f))) max_lines then says (record_text f) f else false

-- the first of some assignments that its record doesn't say, if there is one
abbrev pub first_unsaid : List Assignment → Option Assignment
first_unsaid all = find (λ f. not (is_said f)) all
