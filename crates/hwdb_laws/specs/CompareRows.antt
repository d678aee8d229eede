-- Worked rows of what `diff` prints of two databases: what they assign, what devices get, and counts, as text and as JSON (hwdb(8)). And what
-- `status` says of two that differ.
use Rattle.std.specs.Prelude.{◌++◌, ◌∷◌, ◌≡◌, Bool, List, None, Some, [], codes, false, map, true, ℕ}
use Rattle.hwdb_spec.specs.Assignment.{Assignment}
use Rattle.hwdb_spec_commands.specs.Comparisons.{comparison_form, comparison_said, devices_named, has_changed}
use Rattle.hwdb_spec_commands.specs.DeviceDifferences.{device_differences}
use Rattle.hwdb_spec_commands.specs.Differences.{Change, diff_text, differ, differences}
use Rattle.hwdb_spec_commands.specs.Differences.Change.{Came, Changed, Went}
use Rattle.hwdb_spec_commands.specs.Renamed.{grouped_text}
use Rattle.hwdb_spec_commands.specs.Reviews.{Review, change_counts, given_path}
use Rattle.hwdb_spec_commands.specs.declared.args.Layout.TheVariants.{Grouped, Lines}
use Rattle.hwdb_spec.specs.Folders.{Source}
use Rattle.hwdb_spec_commands.specs.NearAsked.{pattern_of}
use Rattle.hwdb_spec_commands.specs.NearPrefixes.{files_patterns}
use Rattle.hwdb_spec_commands.specs.Status.{amount_of, stale_by}
use Rattle.hwdb_spec_commands.specs.Status.Amount.{Counted}
use Rattle.hwdb_spec_commands.specs.Status.State.{Stale}
use Rattle.hwdb_spec.specs.Tree.{Tree, Value, map_of}
use Rattle.hwdb_spec.specs.Tree.Children.{Child, NoMore}
use Rattle.hwdb_spec.specs.Tree.Tree.{Node}

-- ---- two databases

-- a value of a node
abbrev pub stored : (line : ℕ) (key value path : List ℕ) → Value
stored line key value path = record { priority = 1; line = line; key = codes " " ++ key; value = value; path = path }

-- The old one gives `a*` a K and an L.
abbrev pub old_tree : Tree
old_tree = Node [] [] (Child 97 (Node (codes "*") (stored 2 (codes "K") (codes "1") (codes "f") ∷ stored 3 (codes "L") (codes "1") (codes "f") ∷ []) NoMore) NoMore)

-- The new one gives it another K, and `b` one.
abbrev pub new_tree : Tree
new_tree =
    Node [] []
    (Child 97 (Node (codes "*") (stored 2 (codes "K") (codes "2") (codes "f") ∷ []) NoMore)
    (Child 98 (Node [] (stored 5 (codes "K") (codes "1") (codes "g") ∷ []) NoMore) NoMore))

-- an assignment at a pattern, or to a device
abbrev pub given : (line : ℕ) (pattern key value path : List ℕ) → Assignment
given line pattern key value path = record { position = record { priority = 1; line = line; pattern = pattern; key = key }; value = value; path = path }

-- ---- how it is asked to compare

-- as text, with nothing chosen
abbrev pub plainly : Review
plainly = record { json = false; stat = false; layout = Lines; verbose = false; samples = false; only = []; without = []; prefixes = [] }

-- by record
abbrev pub by_record : Review
by_record = record { json = false; stat = false; layout = Grouped; verbose = false; samples = false; only = []; without = []; prefixes = [] }

-- as JSON
abbrev pub as_json : Review
as_json = record { json = true; stat = false; layout = Lines; verbose = false; samples = false; only = []; without = []; prefixes = [] }

-- as counts, as text or JSON
abbrev pub as_counts : (json : Bool) → Review
as_counts json = record { json = json; stat = true; layout = Grouped; verbose = false; samples = false; only = []; without = []; prefixes = [] }

-- of some files and patterns
abbrev pub choosing : (only without prefixes : List (List ℕ)) → Review
choosing only without prefixes = record { json = false; stat = false; layout = Lines; verbose = false; samples = false; only = only; without = without; prefixes = prefixes }

-- with the changes that aren't met
abbrev pub telling : (json : Bool) → Review
telling json = record { json = json; stat = false; layout = Grouped; verbose = true; samples = false; only = []; without = []; prefixes = [] }

-- what changed: a value, an assignment that went, and one that came
abbrev pub ChangeRows : Type 0
ChangeRows =
    differences (map_of old_tree) (map_of new_tree)
    ≡ Changed (given 2 (codes "a*") (codes "K") (codes "1") (codes "f")) (given 2 (codes "a*") (codes "K") (codes "2") (codes "f"))
    ∷ Went (given 3 (codes "a*") (codes "L") (codes "1") (codes "f")) ∷ Came (given 5 (codes "b") (codes "K") (codes "1") (codes "g")) ∷ []

-- what changed for a device that `a*` matches, for `b`, and for one that no pattern matches
abbrev pub changes_of_ab : List Change
changes_of_ab =
    Changed (given 2 (codes "ab") (codes "K") (codes "1") (codes "f")) (given 2 (codes "ab") (codes "K") (codes "2") (codes "f"))
    ∷ Went (given 3 (codes "ab") (codes "L") (codes "1") (codes "f")) ∷ []

abbrev pub FirstDeviceRows : Type 0
FirstDeviceRows = device_differences (codes "ab") old_tree new_tree ≡ changes_of_ab

abbrev pub SecondDeviceRows : Type 0
SecondDeviceRows = device_differences (codes "b") old_tree new_tree ≡ Came (given 5 (codes "b") (codes "K") (codes "1") (codes "g")) ∷ []

abbrev pub LastDeviceRows : Type 0
LastDeviceRows = device_differences (codes "x") old_tree new_tree ≡ []

-- ---- what is printed

-- a line for each change, as text and as JSON
abbrev pub some_lines : List ℕ
some_lines = codes "~\ta*\tK=1\tf:2\tK=2\tf:2\n-\ta*\tL=1\tf:3\n+\tb\tK=1\tg:5\n"

abbrev pub some_json : List ℕ
some_json =
    codes "{\"pattern\":\"a*\",\"change\":\"changed\",\"key\":\"K\",\"old\":{\"value\":\"1\",\"path\":\"f\",\"line\":2},\"new\":{\"value\":\"2\",\"path\":\"f\",\"line\":2}}\n"
    ++ (codes "{\"pattern\":\"a*\",\"change\":\"removed\",\"key\":\"L\",\"old\":{\"value\":\"1\",\"path\":\"f\",\"line\":3}}\n"
    ++ codes "{\"pattern\":\"b\",\"change\":\"added\",\"key\":\"K\",\"new\":{\"value\":\"1\",\"path\":\"g\",\"line\":5}}\n")

-- lines by file, by key, and of all
abbrev pub some_counts : List ℕ
some_counts = codes "f\t+0\t-1\t~1\ng\t+1\t-0\t~0\n\nK\t+1\t-0\t~1\nL\t+0\t-1\t~0\n\ntotal\t+1\t-1\t~1\n"

abbrev pub some_counts_json : List ℕ
some_counts_json =
    codes "{\"files\":[{\"file\":\"f\",\"added\":0,\"removed\":1,\"changed\":1},{\"file\":\"g\",\"added\":1,\"removed\":0,\"changed\":0}],"
    ++ codes "\"keys\":[{\"key\":\"K\",\"added\":1,\"removed\":0,\"changed\":1},{\"key\":\"L\",\"added\":0,\"removed\":1,\"changed\":0}],\"total\":{\"added\":1,\"removed\":1,\"changed\":1}}\n"

abbrev pub TextRows : Type 0
TextRows =
    comparison_form plainly None old_tree new_tree ∷ comparison_form as_json None old_tree new_tree ∷ comparison_form (as_counts false) None old_tree new_tree
    ∷ comparison_form (as_counts true) None old_tree new_tree ∷ diff_text old_tree new_tree ∷ []
    ≡ some_lines ∷ some_json ∷ some_counts ∷ some_counts_json ∷ some_lines ∷ []

-- By record each pattern is there once. Without devices nothing is said of any.
abbrev pub RecordRows : Type 0
RecordRows =
    comparison_form by_record None old_tree new_tree ∷ comparison_form by_record None old_tree old_tree ∷ comparison_said (telling false) None old_tree new_tree ∷ []
    ≡ codes "a*\n~\tK=1\tf:2\tK=2\tf:2\n-\tL=1\tf:3\nb\n+\tK=1\tg:5\n" ∷ [] ∷ [] ∷ []

-- A pattern that went is told with the first that came with its properties, which isn't told again. Another one that came with them is, and so
-- are a pattern with another value, and one that lost a property alone.
abbrev pub RenamedRows : Type 0
RenamedRows =
    grouped_text (Went (given 2 (codes "a") (codes "K") (codes "1") (codes "f")) ∷ Went (given 3 (codes "a") (codes "L") (codes "2") (codes "f"))
    ∷ Came (given 5 (codes "b") (codes "K") (codes "1") (codes "g")) ∷ Came (given 6 (codes "b") (codes "L") (codes "2") (codes "g"))
    ∷ Came (given 8 (codes "c") (codes "K") (codes "1") (codes "g")) ∷ Came (given 9 (codes "c") (codes "L") (codes "2") (codes "g")) ∷ [])
    ∷ grouped_text (Went (given 2 (codes "a") (codes "K") (codes "1") (codes "f")) ∷ Came (given 5 (codes "b") (codes "K") (codes "2") (codes "g")) ∷ [])
    ∷ grouped_text (Came (given 5 (codes "a") (codes "K") (codes "1") (codes "g")) ∷ Went (given 2 (codes "b") (codes "K") (codes "1") (codes "f"))
    ∷ Changed (given 3 (codes "b") (codes "L") (codes "1") (codes "f")) (given 3 (codes "b") (codes "L") (codes "2") (codes "f")) ∷ []) ∷ []
    ≡ codes "a\n>\tb\tg:5\n=\tK=1\tf:2\n=\tL=2\tf:3\nc\n+\tK=1\tg:8\n+\tL=2\tg:9\n" ∷ codes "a\n-\tK=1\tf:2\nb\n+\tK=2\tg:5\n"
    ∷ codes "a\n+\tK=1\tg:5\nb\n-\tK=1\tf:2\n~\tL=1\tf:3\tL=2\tf:3\n" ∷ []

-- the devices that are asked
abbrev pub some_devices : List (List ℕ)
some_devices = codes "ab" ∷ codes "x" ∷ codes "b" ∷ []

-- Of devices each is on a line, and nothing is printed of one without a change. Two of the three have one.
abbrev pub DeviceTextRows : Type 0
DeviceTextRows =
    comparison_form plainly (Some some_devices) old_tree new_tree ∷ comparison_form as_json (Some some_devices) old_tree new_tree
    ∷ comparison_form (as_counts false) (Some some_devices) old_tree new_tree ∷ []
    ≡ codes "ab\n~\tK=1\tf:2\tK=2\tf:2\n-\tL=1\tf:3\nb\n+\tK=1\tg:5\n"
    ∷ (codes "{\"device\":\"ab\",\"changes\":[{\"change\":\"changed\",\"key\":\"K\",\"old\":{\"value\":\"1\",\"path\":\"f\",\"line\":2},\"new\":{\"value\":\"2\",\"path\":\"f\",\"line\":2}},"
    ++ (codes "{\"change\":\"removed\",\"key\":\"L\",\"old\":{\"value\":\"1\",\"path\":\"f\",\"line\":3}}]}\n"
    ++ (codes "{\"device\":\"b\",\"changes\":[{\"change\":\"added\",\"key\":\"K\",\"new\":{\"value\":\"1\",\"path\":\"g\",\"line\":5}}]}\n"
    ++ codes "{\"changed\":3,\"unmet\":0}\n")))
    ∷ (some_counts ++ codes "devices\t2\n") ∷ []

-- whether there is a change: the status is 1 then
abbrev pub StatusRows : Type 0
StatusRows =
    differ old_tree new_tree ∷ has_changed plainly None old_tree new_tree ∷ has_changed plainly (Some (codes "ab" ∷ [])) old_tree new_tree
    ∷ has_changed plainly (Some (codes "x" ∷ [])) old_tree new_tree ∷ []
    ≡ true ∷ true ∷ true ∷ false ∷ []

-- A database has no change from itself.
abbrev pub SameRows : Type 0
SameRows = differ old_tree old_tree ∷ has_changed plainly None old_tree old_tree ∷ [] ≡ false ∷ false ∷ []

-- ---- what devices don't meet

-- What standard error says: of one device, of two, and of none; nothing if all are met.
abbrev pub UnmetRows : Type 0
UnmetRows =
    map (λ devices. comparison_said by_record (Some devices) old_tree new_tree)
    ((codes "ab" ∷ []) ∷ (codes "b" ∷ []) ∷ (codes "x" ∷ codes "y" ∷ []) ∷ (codes "x" ∷ codes "ab" ∷ []) ∷ [] ∷ some_devices ∷ [])
    ≡ codes "1 of 3 changed assignments is not met by this device\n" ∷ codes "2 of 3 changed assignments are not met by this device\n"
    ∷ codes "3 of 3 changed assignments are met by none of these devices\n" ∷ codes "1 of 3 changed assignments is met by none of these devices\n"
    ∷ codes "3 of 3 changed assignments are met by none of these devices\n" ∷ [] ∷ []

-- And which they are. As JSON they are in the last line, and standard error has nothing.
abbrev pub WhichRows : Type 0
WhichRows =
    comparison_said (telling false) (Some (codes "b" ∷ [])) old_tree new_tree ∷ comparison_said (telling true) (Some (codes "b" ∷ [])) old_tree new_tree
    ∷ comparison_form (telling true) (Some (codes "x" ∷ [])) old_tree old_tree ∷ comparison_form (telling true) (Some (codes "ab" ∷ [])) old_tree new_tree ∷ []
    ≡ codes "2 of 3 changed assignments are not met by this device\n~\ta*\tK=1\tf:2\tK=2\tf:2\n-\ta*\tL=1\tf:3\n" ∷ []
    ∷ codes "{\"changed\":0,\"unmet\":0,\"changes\":[]}\n"
    ∷ (codes "{\"device\":\"ab\",\"changes\":[{\"change\":\"changed\",\"key\":\"K\",\"old\":{\"value\":\"1\",\"path\":\"f\",\"line\":2},\"new\":{\"value\":\"2\",\"path\":\"f\",\"line\":2}},"
    ++ (codes "{\"change\":\"removed\",\"key\":\"L\",\"old\":{\"value\":\"1\",\"path\":\"f\",\"line\":3}}]}\n"
    ++ codes "{\"changed\":3,\"unmet\":1,\"changes\":[{\"pattern\":\"b\",\"change\":\"added\",\"key\":\"K\",\"new\":{\"value\":\"1\",\"path\":\"g\",\"line\":5}}]}\n")) ∷ []

-- ---- which changes count

-- Of the three changes those of the files and patterns that are asked for: `f`'s, all but `f`'s, none of both, those of patterns from `b` on, and of a
-- text that none begins with.
abbrev pub ChosenRows : Type 0
ChosenRows =
    map (λ r. comparison_form r None old_tree new_tree)
    (choosing (codes "f" ∷ []) [] [] ∷ choosing [] (codes "[fx]" ∷ []) [] ∷ choosing (codes "*" ∷ []) (codes "f" ∷ codes "?" ∷ []) []
    ∷ choosing [] [] (codes "b" ∷ codes "c" ∷ []) ∷ choosing [] [] (codes "*" ∷ []) ∷ [])
    ≡ codes "~\ta*\tK=1\tf:2\tK=2\tf:2\n-\ta*\tL=1\tf:3\n" ∷ codes "+\tb\tK=1\tg:5\n" ∷ [] ∷ codes "+\tb\tK=1\tg:5\n" ∷ [] ∷ []

-- An assignment passes by the name of its file, without the folder. A change of two files counts if one of them does.
abbrev pub PassRows : Type 0
PassRows =
    map (λ r. change_counts r (Changed (given 2 (codes "a") (codes "K") (codes "1") (codes "/d/60-a.hwdb")) (given 2 (codes "a") (codes "K") (codes "2") (codes "/d/20-b.hwdb"))))
    (choosing (codes "60-*" ∷ []) [] [] ∷ choosing [] (codes "20-*" ∷ []) [] ∷ choosing [] (codes "20-*" ∷ codes "60-*" ∷ []) [] ∷ choosing (codes "/d*" ∷ []) [] [] ∷ [])
    ≡ true ∷ true ∷ false ∷ false ∷ []

-- A text file of a side has the path that was given; a file of `update` has its own.
abbrev pub GivenRows : Type 0
GivenRows =
    map given_path (codes "/etc/udev/hwdb.d//new/60-a.hwdb" ∷ codes "/etc/udev/hwdb.d///tmp/a.hwdb" ∷ codes "/etc/udev/hwdb.d/60-a.hwdb" ∷ codes "/usr/lib/udev/hwdb.d//a" ∷ [])
    ≡ codes "new/60-a.hwdb" ∷ codes "/tmp/a.hwdb" ∷ codes "/etc/udev/hwdb.d/60-a.hwdb" ∷ codes "/usr/lib/udev/hwdb.d//a" ∷ []

-- devices are the lines of all files that name some; without a file all assignments are compared
abbrev pub NamedRows : Type 0
NamedRows =
    devices_named [] ∷ devices_named (record { name = codes "d"; bytes = codes "a\nb\n" } ∷ record { name = codes "e"; bytes = codes "c" } ∷ []) ∷ []
    ≡ None ∷ Some (codes "a" ∷ codes "b" ∷ codes "c" ∷ []) ∷ []

-- ---- status

-- a stale database has so many changes, of which the first is told; one may be stale without a change
abbrev pub StaleRows : Type 0
StaleRows = stale_by changes_of_ab ∷ stale_by [] ∷ [] ≡ Stale 2 (codes "~\tab\tK=1\tf:2\tK=2\tf:2\n") ∷ Stale 0 [] ∷ []

-- how much is in a database, of all that is counted
abbrev pub AmountRows : Type 0
AmountRows = amount_of (record { files = 1; patterns = 2; keys = 3; assignments = 4; nodes = 5; depth = 6; bytes = 7 }) ≡ Counted 1 4 7

-- ---- patterns of text files

-- a file of /usr/lib
abbrev pub of_usr : List Source
of_usr = record { name = codes "1.hwdb"; bytes = codes "b*\na*\n K=1\n L=1\n" } ∷ []

-- Each is there once, at the first line that gives it a property.
abbrev pub PatternRows : Type 0
PatternRows =
    files_patterns [] of_usr
    ≡ map pattern_of
    (given 3 (codes "a*") (codes "K") (codes "1") (codes "/usr/lib/udev/hwdb.d/1.hwdb") ∷ given 3 (codes "b*") (codes "K") (codes "1") (codes "/usr/lib/udev/hwdb.d/1.hwdb") ∷ [])
