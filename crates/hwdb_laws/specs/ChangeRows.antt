-- Worked rows of what `diff` says: which changes two maps have and in which order, and the lines of each, as hwdb(8) shows them.
use Rattle.std.specs.FinMap as finite
use Rattle.std.specs.Prelude.{◌∷◌, ◌≡◌, List, None, Some, [], codes, false, map, true, ℕ}
use Rattle.hwdb_spec.specs.Assignment.{Assignment}
use Rattle.hwdb_spec_commands.specs.Comparisons.{files_diff_form}
use Rattle.hwdb_spec_commands.specs.DeviceDifferences.{device_changes_text}
use Rattle.hwdb_spec_commands.specs.Differences.{change_at, changes_text, differences, files_diff_text, places}
use Rattle.hwdb_spec_commands.specs.Differences.Change.{Came, Changed, Went}
use Rattle.hwdb_spec_commands.specs.Reviews.{Review}
use Rattle.hwdb_spec_commands.specs.Tables.{device_table, tables_text}
use Rattle.hwdb_spec_commands.specs.declared.args.Layout.TheVariants.{Lines}
use Rattle.hwdb_spec.specs.Folders.{Source}
use Rattle.hwdb_spec.specs.Tree.{Map, entry_of}

-- an assignment of a file
abbrev pub said_by : (path pattern key value : List ℕ) → Assignment
said_by path pattern key value = record { position = record { priority = 1; line = 2; pattern = pattern; key = key }; value = value; path = path }

-- a map of some assignments
abbrev pub map_with : List Assignment → Map
map_with all = finite.from_entries (map entry_of all)

abbrev pub a_k1 : Assignment
a_k1 = said_by (codes "f") (codes "a*") (codes "K") (codes "1")

abbrev pub a_k2 : Assignment
a_k2 = said_by (codes "f") (codes "a*") (codes "K") (codes "2")

abbrev pub a_l1 : Assignment
a_l1 = said_by (codes "f") (codes "a*") (codes "L") (codes "1")

abbrev pub b_k1 : Assignment
b_k1 = said_by (codes "f") (codes "b*") (codes "K") (codes "1")

abbrev pub c_of : (path : List ℕ) → Assignment
c_of path = said_by path (codes "c*") (codes "K") (codes "3")

-- What two maps have at one place: nothing, what came, what went, one value or two. Another file that gives the same value is no change.
abbrev pub PlaceRows : Type 0
PlaceRows =
    change_at None None ∷ change_at None (Some a_k1) ∷ change_at (Some a_k1) None ∷ change_at (Some a_k1) (Some a_k2)
    ∷ change_at (Some (c_of (codes "f"))) (Some (c_of (codes "g"))) ∷ []
    ≡ [] ∷ (Came a_k1 ∷ []) ∷ (Went a_k1 ∷ []) ∷ (Changed a_k1 a_k2 ∷ []) ∷ [] ∷ []

-- an old map and a new one
abbrev pub old_map : Map
old_map = map_with (a_k1 ∷ a_l1 ∷ c_of (codes "f") ∷ [])

abbrev pub new_map : Map
new_map = map_with (c_of (codes "g") ∷ b_k1 ∷ a_k2 ∷ [])

-- the places of both, by pattern and then by key: those of one alone too
abbrev pub JoinedRows : Type 0
JoinedRows =
    places old_map new_map
    ≡ (codes "a*", codes "K") ∷ (codes "a*", codes "L") ∷ (codes "b*", codes "K") ∷ (codes "c*", codes "K") ∷ []

-- the changes from the one to the other, and back
abbrev pub DifferenceRows : Type 0
DifferenceRows =
    differences old_map new_map ∷ differences new_map old_map ∷ differences old_map old_map ∷ []
    ≡ (Changed a_k1 a_k2 ∷ Went a_l1 ∷ Came b_k1 ∷ []) ∷ (Changed a_k2 a_k1 ∷ Came a_l1 ∷ Went b_k1 ∷ []) ∷ [] ∷ []

-- a line for each change; that of a value has the pattern once
abbrev pub LineRows : Type 0
LineRows =
    changes_text (Changed a_k1 a_k2 ∷ Went a_l1 ∷ Came b_k1 ∷ [])
    ≡ codes "~\ta*\tK=1\tf:2\tK=2\tf:2\n-\ta*\tL=1\tf:2\n+\tb*\tK=1\tf:2\n"

-- of a device the lines have no pattern, and none is printed of a device without a change
abbrev pub DeviceRows : Type 0
DeviceRows =
    device_changes_text (codes "dev") [] ∷ device_changes_text (codes "dev") (Changed a_k1 a_k2 ∷ Went a_l1 ∷ Came b_k1 ∷ []) ∷ []
    ≡ [] ∷ codes "dev\n~\tK=1\tf:2\tK=2\tf:2\n-\tL=1\tf:2\n+\tK=1\tf:2\n" ∷ []

-- an assignment whose key, value and path have signs of Markdown and HTML
abbrev pub marked : Assignment
marked = said_by (codes "f_<") (codes "[a|b]") (codes "K_1") (codes "`1`&2")

-- Tables of GitHub Flavored Markdown: a cell for what isn't there is empty, and signs are told by their numbers. None of a device without a
-- change.
abbrev pub TableRows : Type 0
TableRows =
    tables_text (Changed a_k1 a_k2 ∷ Went a_l1 ∷ Came b_k1 ∷ []) ∷ tables_text [] ∷ device_table (codes "d\\*") (Came marked ∷ []) ∷ device_table (codes "d") [] ∷ []
    ≡ codes
    "<code>a&#42;</code>\n\n| Property | Before | After |\n|---|---|---|\n| <code>K</code> | <code>1</code><br><code>f:2</code> | <code>2</code><br><code>f:2</code> |\n| <code>L</code> | <code>1</code><br><code>f:2</code> |  |\n\n<code>b&#42;</code>\n\n| Property | Before | After |\n|---|---|---|\n| <code>K</code> |  | <code>1</code><br><code>f:2</code> |\n\n"
    ∷ []
    ∷ codes
    "<code>d&#92;&#42;</code>\n\n| Property | Before | After |\n|---|---|---|\n| <code>K&#95;1</code> |  | <code>&#96;1&#96;&#38;2</code><br><code>f&#95;&#60;:2</code> |\n\n"
    ∷ [] ∷ []

-- a text file
abbrev pub file_of : (name text : List ℕ) → Source
file_of name text = record { name = name; bytes = text }

-- From files to their changes: a value that another file of both folders gives later counts, and the paths are those of the folders.
abbrev pub FileRows : Type 0
FileRows =
    files_diff_text [] (file_of (codes "1.hwdb") (codes "a*\n K=1\n L=1\n") ∷ [])
    (file_of (codes "2.hwdb") (codes "a*\n K=2\n") ∷ []) (file_of (codes "1.hwdb") (codes "a*\n K=1\n") ∷ [])
    ≡ codes "~\ta*\tK=1\t/usr/lib/udev/hwdb.d/1.hwdb:2\tK=2\t/etc/udev/hwdb.d/2.hwdb:2\n-\ta*\tL=1\t/usr/lib/udev/hwdb.d/1.hwdb:3\n"

-- lines, of patterns that begin so
abbrev pub of_b : Review
of_b = record { json = false; stat = false; layout = Lines; verbose = false; samples = false; only = []; without = []; prefixes = codes "b" ∷ [] }

-- The same of these patterns alone.
abbrev pub ReviewedFileRows : Type 0
ReviewedFileRows =
    files_diff_form of_b [] (file_of (codes "1.hwdb") (codes "a*\n K=1\n\nb*\n K=1\n") ∷ [])
    (file_of (codes "2.hwdb") (codes "a*\n K=2\n\nb*\n K=2\n") ∷ []) (file_of (codes "1.hwdb") (codes "b*\n K=1\n") ∷ [])
    ≡ codes "~\tb*\tK=1\t/usr/lib/udev/hwdb.d/1.hwdb:5\tK=2\t/etc/udev/hwdb.d/2.hwdb:5\n"
