-- Which files of two folders count, after hwdb(7). A file of /etc masks that of the same name in /usr/lib, and all are
-- ordered by name, whatever folder they are in. Then what they assign together, and when they are accepted. Which names
-- count is our choice but for the ending, and so are the limits.
use Rattle.std.specs.Prelude.{Bool, List, codes, false, nat_eq, not, ℕ, if◌then◌else◌, [], ◌∷◌, filter, ◌++◌, count_by, ◌+◌, ◌-◌, ◌^◌, map, min, flat_map, length, ◌≤◌, ◌<◌, All, Any}
use Rattle.std.specs.List.{ends_with, list_any}
use Rattle.std.specs.Ordering.{is_lt, is_eq}
use Rattle.hwdb_spec.specs.Lines.{begins_with, byte, has, lines}
use Rattle.hwdb_spec.specs.Assignment.{Assignment, text_cmp, ascending}
use Rattle.hwdb_spec.specs.Records.{assignments, faults}
use Rattle.hwdb_spec.specs.declared.Fault.{Fault}

-- a name that counts: it ends in `.hwdb`, doesn't begin with `.`, and has no byte 0
abbrev pub counts : List ℕ → Bool
counts name = if ends_with nat_eq name (codes ".hwdb") then (if begins_with (byte ".") name then false else not (has 0 name)) else false

-- whether two names are equal
abbrev pub same : List ℕ → List ℕ → Bool
same m n = is_eq (text_cmp m n)

-- whether a list has the name
abbrev pub lists : List ℕ → List (List ℕ) → Bool
lists name set = list_any (λ n. same n name) set

-- the set of the names of both folders that count
abbrev pub names : (etc usr : List (List ℕ)) → List (List ℕ)
names etc usr = ascending (filter counts (etc ++ usr))

-- a chosen file: whether it is taken from etc, its name, and its priority
pub record Choice : Type 0 where
  pub from_etc : Bool
  pub name : List ℕ
  pub priority : ℕ

-- The chosen files, by priority. A name of the set is taken from etc if etc has it, else from usr. Its priority is one plus
-- the number of smaller names (hwdb(7)).
abbrev pub choice : (etc usr : List (List ℕ)) → List Choice
choice etc usr =
    map (λ name. record {
      from_etc = lists name etc;
      name = name;
      priority = 1 + count_by (λ n. is_lt (text_cmp n name)) (names etc usr);
    }) (names etc usr)

-- the stored path: `/etc/udev/hwdb.d/` or `/usr/lib/udev/hwdb.d/`, then the name
abbrev pub path_of : Choice → List ℕ
path_of c = (if c.from_etc then codes "/etc/udev/hwdb.d/" else codes "/usr/lib/udev/hwdb.d/") ++ c.name

-- a file of a folder
pub record Source : Type 0 where
  pub name : List ℕ
  pub bytes : List ℕ

-- the chosen files, by priority
abbrev pub chosen_of : (etc usr : List Source) → List Choice
chosen_of etc usr = choice (map (λ (s : Source). s.name) etc) (map (λ (s : Source). s.name) usr)

-- the bytes of the first of some files that has a name; others, if none has it
unfoldable pub first_of : List ℕ → List Source → (others : List ℕ) → List ℕ
first_of name [] others = others
first_of name (s ∷ more) others = if same name s.name then s.bytes else first_of name more others

-- the bytes of a chosen file: etc's if etc has its name, else usr's
abbrev pub contents : (etc usr : List Source) → Choice → List ℕ
contents etc usr c = first_of c.name etc (first_of c.name usr [])

-- what the chosen files assign, by priority, line and match line; `read` gives the bytes of each
abbrev pub file_assignments : (read : Choice → List ℕ) → Choice → List Assignment
file_assignments read c = assignments (record { path = path_of c; priority = c.priority }) (read c)

-- a fault, with the stored path of its file
pub record FaultIn : Type 0 where
  pub path : List ℕ
  pub fault : Fault

-- a fault in the file with this stored path
abbrev pub fault_in : List ℕ → Fault → FaultIn
fault_in path f = record { path = path; fault = f }

-- the faults of the chosen files, by priority, line and number
abbrev pub file_faults : (read : Choice → List ℕ) → Choice → List FaultIn
file_faults read c = map (fault_in (path_of c)) (faults (read c))

-- the faults of all chosen files with their stored paths, by priority, line and number
abbrev pub faults_of_files : (etc usr : List Source) → List FaultIn
faults_of_files etc usr = flat_map (file_faults (contents etc usr)) (chosen_of etc usr)

-- all assignments of the files of two folders
abbrev pub all_assignments : (etc usr : List Source) → List Assignment
all_assignments etc usr = flat_map (file_assignments (contents etc usr)) (chosen_of etc usr)

-- how many files may be chosen
abbrev pub max_files : ℕ
max_files = 65535

-- how many lines a file may have
abbrev pub max_lines : ℕ
max_lines = 4294967295

-- at most 65,535 files are chosen, and none has more than 4,294,967,295 lines
pub record AreAccepted (etc usr : List Source) : Type 0 where
  pub files : length (chosen_of etc usr) ≤ max_files
  pub lines : All (λ c. length (lines (contents etc usr c)) ≤ max_lines) (chosen_of etc usr)

-- one of the chosen files has more lines
pub record HaveManyLines (etc usr : List Source) : Type 0 where
  pub files : length (chosen_of etc usr) ≤ max_files
  pub lines : Any (λ c. max_lines < length (lines (contents etc usr c))) (chosen_of etc usr)

-- a number, or the greatest one of 64 bits if it is larger
abbrev pub within_64_bits : ℕ → ℕ
within_64_bits n = min n (2 ^ 64 - 1)
