-- The names that the code holds while it chooses: in order of their bytes, each with whether it is taken from etc.
use Rattle.std.specs.Prelude.{Bool, List, ℕ, [], if◌then◌else◌, ◌∷◌, false, true, ◌+◌, count_by}
use Rattle.std.specs.Borrow.{Bor}
use Rattle.std.specs.BTreeMap.{insert_entry}
use Rattle.std.specs.Ordering.{nat_cmp, is_lt}
use Rattle.std.specs.Cmp.Lexicographic.{slice_cmp}
use Rattle.hwdb_spec.specs.Folders.{counts, lists, same, Choice}
use Rattle.hwdb_spec.specs.Assignment.{text_cmp}
use Rattle.hwdb_text.specs.Laws.{is_smaller}

abbrev pub entry_of : Bor (List ℕ) × Bool → List ℕ × Bool
entry_of e = (e.0.now, e.1)

-- The names of a list that count, put among those that are held. A name that is held already keeps its place and takes
-- the new answer.
abbrev pub put_all : Bool → List (List ℕ) → List (List ℕ × Bool) → List (List ℕ × Bool)
put_all from_etc [] held = held
put_all from_etc (name ∷ more) held = put_all from_etc more (if counts name then insert_entry (slice_cmp nat_cmp) held name from_etc else held)

-- a name of the set as a choice
abbrev pub chosen : (etc set : List (List ℕ)) → List ℕ → Choice
chosen etc set name = record {
  from_etc = lists name etc;
  name = name;
  priority = 1 + count_by (λ n. is_lt (text_cmp n name)) set;
}

-- a name, put among ascending ones if it isn't there
abbrev pub with_name : List ℕ → List (List ℕ) → List (List ℕ)
with_name name [] = name ∷ []
with_name name (n ∷ more) =
    if is_smaller name n then name ∷ (n ∷ more) else (if same name n then n ∷ more else n ∷ with_name name more)

-- the names of both folders
abbrev pub all_names : List (List ℕ) → List (List ℕ) → List (List ℕ × Bool)
all_names etc usr = put_all true etc (put_all false usr [])

-- the names with their priorities, from the one given on
unfoldable pub with_priorities : ℕ → List (List ℕ × Bool) → List Choice
with_priorities priority [] = []
with_priorities priority (n ∷ more) = record { from_etc = n.1; name = n.0; priority = priority } ∷ with_priorities (priority + 1) more
