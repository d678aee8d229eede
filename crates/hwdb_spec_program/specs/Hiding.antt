-- What `update --usr --verbose` says before its other lines, if something is in the place of /etc's database. That one is
-- asked first (`asked_database`), and so hides the new one. Our choice.
use Rattle.std.specs.Prelude.{Bool, true, false, ℕ, List, [], ◌++◌, codes, if◌then◌else◌, is_some}
use Rattle.hwdb_spec.specs.Store.{Contents, path_in, database_name}
use Rattle.hwdb_spec.specs.System.{bytes_at, database_folder}
use Rattle.hwdb_spec.specs.Visible.{shown_name}

-- the path of the database in one of the folders below a root
abbrev path_of_database : (usr : Bool) (root : List ℕ) → List ℕ
path_of_database usr root = path_in (database_folder usr root) database_name

-- the line of a database of /usr/lib that one of /etc hides: the paths of both
abbrev pub hiding_line : (root : List ℕ) → List ℕ
hiding_line root = shown_name (path_of_database false root) ++ (codes " hides " ++ (shown_name (path_of_database true root) ++ codes ": it is asked first\n"))

-- what `update --usr --verbose` says first: that line, if it is to be said
abbrev pub hiding_text : (usr verbose : Bool) (root : List ℕ) → Contents → List ℕ
hiding_text false verbose root contents = []
hiding_text true false root contents = []
hiding_text true true root contents = if is_some (bytes_at contents (path_of_database false root)) then hiding_line root else []
