-- Worked rows of what a database, or text files, answer: `query`, `list`, `explain`, the strings of the C library and `dump`, as hwdb(8) and
-- libhwdb(3) show them. The answers are worked out by hand, by hwdb(7): the last assignment of a key counts.
use Rattle.std.specs.Prelude.{◌++◌, ◌∷◌, ◌≡◌, List, None, Some, [], codes, false, map, true, ℕ}
use Rattle.hwdb_spec_commands.specs.Asked.{list_form}
use Rattle.hwdb_spec.specs.Assignment.{Assignment, Position}
use Rattle.hwdb_spec_commands.specs.Dump.{dump_text, first_unsaid, is_said}
use Rattle.hwdb_spec.specs.Folders.{Source}
use Rattle.hwdb_spec.specs.Format.{value_at}
use Rattle.hwdb_spec_commands.specs.Json.{device_json, last_lines_json, properties_in, text_at}
use Rattle.hwdb_spec.specs.Library.{device_strings, last_strings}
use Rattle.hwdb_spec_commands.specs.Listings.{line_of}
use Rattle.hwdb_spec_commands.specs.LoneFile.{lone, lone_choice}
use Rattle.hwdb_spec_commands.specs.NearAsked.{database_patterns, near_form, near_limit}
use Rattle.hwdb_spec_commands.specs.Streams.{last_texts_of, texts_of}
use Rattle.hwdb_spec.specs.Texts.{canonical, devices_of, last_lines_text, query_text, last_values_text}
use Rattle.hwdb_spec.specs.Tree.{Tree, Value, prefix_of, values_of}
use Rattle.hwdb_spec.specs.Tree.Children.{Child, NoMore}
use Rattle.hwdb_spec.specs.Tree.Tree.{Node}
use Rattle.hwdb_spec_commands.specs.declared.form.Form.TheVariants.{Explain, Query}

-- ---- a database, and the text files that it is made of

-- a value of a node, as a database has it
abbrev pub stored : (priority line : ℕ) (key value path : List ℕ) → Value
stored priority line key value path = record { priority = priority; line = line; key = codes " " ++ key; value = value; path = path }

abbrev pub usr_path : List ℕ
usr_path = codes "/usr/lib/udev/hwdb.d/1.hwdb"

abbrev pub etc_path : List ℕ
etc_path = codes "/etc/udev/hwdb.d/2.hwdb"

-- The first file gives `a*` a K, the second one `ab` a K and an L.
abbrev pub of_usr : List Source
of_usr = record { name = codes "1.hwdb"; bytes = codes "a*\n K=1\n" } ∷ []

abbrev pub of_etc : List Source
of_etc = record { name = codes "2.hwdb"; bytes = codes "# comment\n\nab\n K=2\n L=3\n" } ∷ []

abbrev pub values_of_ab : List Value
values_of_ab = stored 2 4 (codes "K") (codes "2") etc_path ∷ stored 2 5 (codes "L") (codes "3") etc_path ∷ []

-- the tree of these: below `a` a star and a `b`
abbrev pub some_tree : Tree
some_tree =
    Node (codes "a") []
    (Child 42 (Node [] (stored 1 2 (codes "K") (codes "1") usr_path ∷ []) NoMore)
    (Child 98 (Node [] values_of_ab NoMore) NoMore))

-- its root, and that of a tree with values
abbrev pub NodeRows : Type 0
NodeRows = (prefix_of some_tree ≡ codes "a") × (values_of some_tree ≡ []) × (values_of (Node (codes "b") values_of_ab NoMore) ≡ values_of_ab)

-- ---- query

-- the devices that are asked: of one both assign a K, of one the first file alone, of one none
abbrev pub some_devices : List (List ℕ)
some_devices = codes "ab" ∷ codes "x" ∷ codes "ac" ∷ []

-- An empty line is between two devices, also if one gets nothing.
abbrev pub queried : List ℕ
queried = codes "K=2\nL=3\n\n\nK=1\n"

-- A line of JSON is for each device, and none between two.
abbrev pub queried_json : List ℕ
queried_json = codes "{\"device\":\"ab\",\"properties\":{\"K\":\"2\",\"L\":\"3\"}}\n{\"device\":\"x\",\"properties\":{}}\n{\"device\":\"ac\",\"properties\":{\"K\":\"1\"}}\n"

-- Below a key is where it comes from, and what it overrides.
abbrev pub explained_texts : List ℕ
explained_texts =
    codes "K=2\n    /etc/udev/hwdb.d/2.hwdb:4  ab\n  overrides K=1\n    /usr/lib/udev/hwdb.d/1.hwdb:2  a*\nL=3\n    /etc/udev/hwdb.d/2.hwdb:5  ab\n"
    ++ codes "\n\nK=1\n    /usr/lib/udev/hwdb.d/1.hwdb:2  a*\n"

-- As JSON each line has its device, so that none is of one without properties.
abbrev pub explained_lines : List ℕ
explained_lines =
    (codes "{\"device\":\"ab\",\"key\":\"K\",\"value\":\"2\",\"path\":\"/etc/udev/hwdb.d/2.hwdb\",\"line\":4,\"pattern\":\"ab\","
    ++ codes "\"overrides\":[{\"value\":\"1\",\"path\":\"/usr/lib/udev/hwdb.d/1.hwdb\",\"line\":2,\"pattern\":\"a*\"}]}\n")
    ++ codes "{\"device\":\"ab\",\"key\":\"L\",\"value\":\"3\",\"path\":\"/etc/udev/hwdb.d/2.hwdb\",\"line\":5,\"pattern\":\"ab\",\"overrides\":[]}\n"
    ++ codes "{\"device\":\"ac\",\"key\":\"K\",\"value\":\"1\",\"path\":\"/usr/lib/udev/hwdb.d/1.hwdb\",\"line\":2,\"pattern\":\"a*\",\"overrides\":[]}\n"

-- what the database answers
abbrev pub DatabaseRows : Type 0
DatabaseRows =
    texts_of (Query false) some_devices some_tree ∷ texts_of (Query true) some_devices some_tree ∷ texts_of (Explain false) some_devices some_tree
    ∷ texts_of (Explain true) some_devices some_tree ∷ query_text (codes "ab") some_tree ∷ []
    ≡ queried ∷ queried_json ∷ explained_texts ∷ explained_lines ∷ codes "K=2\nL=3\n" ∷ []

-- the same, of the text files
abbrev pub FileRows : Type 0
FileRows =
    last_texts_of (Query false) some_devices of_etc of_usr ∷ last_texts_of (Query true) some_devices of_etc of_usr ∷ last_texts_of (Explain false) some_devices of_etc of_usr
    ∷ last_texts_of (Explain true) some_devices of_etc of_usr ∷ last_values_text (codes "ab") of_etc of_usr ∷ []
    ≡ queried ∷ queried_json ∷ explained_texts ∷ explained_lines ∷ codes "K=2\nL=3\n" ∷ []

-- a property whose key isn't UTF-8 is a pair under `raw`, and each byte of its key a number
abbrev pub RawRows : Type 0
RawRows =
    properties_in (device_json (codes "d") ((codes "K", codes "1") ∷ (255 ∷ codes "b", codes "2") ∷ [])) ∷ properties_in (device_json (codes "d") []) ∷ []
    ≡ ((codes "K", codes "1") ∷ (255 ∷ codes "b", codes "2") ∷ []) ∷ [] ∷ []

-- a device that isn't UTF-8 is read back as its bytes, and a name that isn't there gives nothing
abbrev pub NameRows : Type 0
NameRows = text_at (codes "device") (device_json (255 ∷ codes "d") []) ∷ text_at (codes "device") (device_json (codes "d") []) ∷ text_at (codes "x") (device_json (codes "d") []) ∷ [] ≡ (255 ∷ codes "d") ∷ codes "d" ∷ [] ∷ []

-- ---- list

-- where an assignment is, as `--after` has it: priority, line, and pattern and key in hexadecimal digits
abbrev pub place : (priority line : ℕ) (pattern key : List ℕ) → Position
place priority line pattern key = record { priority = priority; line = line; pattern = pattern; key = key }

abbrev pub PositionRows : Type 0
PositionRows = map canonical (place 3 17 (codes "usb:*") (codes "K") ∷ place 10 2 [] [] ∷ []) ≡ codes "3:17:7573623a2a:4b" ∷ codes "10:2::" ∷ []

-- the hits, the first of them, and those after the second
abbrev pub ListRows : Type 0
ListRows =
    list_form false (codes "ab") None None some_tree ∷ list_form false (codes "ab") None (Some 1) some_tree
    ∷ list_form true (codes "ab") (Some (place 2 4 (codes "ab") (codes "K"))) (Some 9) some_tree ∷ list_form false (codes "ab") None (Some 0) some_tree ∷ []
    ≡ codes "1:2:612a:4b\ta*\tK=1\n2:4:6162:4b\tab\tK=2\n2:5:6162:4c\tab\tL=3\n" ∷ codes "1:2:612a:4b\ta*\tK=1\n"
    ∷ codes "{\"position\":\"2:5:6162:4c\",\"path\":\"/etc/udev/hwdb.d/2.hwdb\",\"line\":5,\"priority\":2,\"pattern\":\"ab\",\"key\":\"L\",\"value\":\"3\"}\n"
    ∷ [] ∷ []

-- the same, of the text files
abbrev pub FileListRows : Type 0
FileListRows =
    last_lines_text (codes "ab") None None of_etc of_usr ∷ last_lines_json (codes "ab") (Some (place 2 4 (codes "ab") (codes "K"))) (Some 9) of_etc of_usr ∷ []
    ≡ codes "1:2:612a:4b\ta*\tK=1\n2:4:6162:4b\tab\tK=2\n2:5:6162:4c\tab\tL=3\n"
    ∷ codes "{\"position\":\"2:5:6162:4c\",\"path\":\"/etc/udev/hwdb.d/2.hwdb\",\"line\":5,\"priority\":2,\"pattern\":\"ab\",\"key\":\"L\",\"value\":\"3\"}\n"
    ∷ []

-- an assignment of a database of another tool
abbrev pub foreign : (path pattern key value : List ℕ) → Assignment
foreign path pattern key value = record { position = place 1 2 pattern key; value = value; path = path }

-- the line of one hit, as text or as JSON
abbrev pub HitRows : Type 0
HitRows =
    map (λ json. line_of json (foreign (codes "f") (codes "a") (codes "K") (codes "v"))) (false ∷ true ∷ [])
    ≡ codes "1:2:61:4b\ta\tK=v\n" ∷ codes "{\"position\":\"1:2:61:4b\",\"path\":\"f\",\"line\":2,\"priority\":1,\"pattern\":\"a\",\"key\":\"K\",\"value\":\"v\"}\n" ∷ []

-- ---- the C library

-- each key and each value ends with a byte 0
abbrev pub StringRows : Type 0
StringRows =
    map (λ device. device_strings device some_tree) some_devices ++ map (λ device. last_strings device of_etc of_usr) some_devices
    ≡ (75 ∷ 0 ∷ 50 ∷ 0 ∷ 76 ∷ 0 ∷ 51 ∷ 0 ∷ []) ∷ [] ∷ (75 ∷ 0 ∷ 49 ∷ 0 ∷ []) ∷ (75 ∷ 0 ∷ 50 ∷ 0 ∷ 76 ∷ 0 ∷ 51 ∷ 0 ∷ []) ∷ [] ∷ (75 ∷ 0 ∷ 49 ∷ 0 ∷ []) ∷ []

-- ---- dump

-- a record for each assignment
abbrev pub DumpRows : Type 0
DumpRows =
    dump_text some_tree
    ≡ codes "# /usr/lib/udev/hwdb.d/1.hwdb:2\na*\n K=1\n\n# /etc/udev/hwdb.d/2.hwdb:4\nab\n K=2\n\n# /etc/udev/hwdb.d/2.hwdb:5\nab\n L=3\n\n"

-- A record says an assignment, unless its key has a `=`, its pattern begins with a space, or its value has a newline or a `#`. A newline of
-- the path is shown in the comment, and so ends nothing.
abbrev pub SaidRows : Type 0
SaidRows =
    map is_said
    (foreign (codes "f") (codes "a") (codes "K") (codes "v w") ∷ foreign (codes "f") (codes "a") (codes "K=") (codes "v") ∷ foreign (codes "f") (codes " a") (codes "K") (codes "v")
    ∷ foreign (codes "f") (codes "a") (codes "K") (codes "v\nw") ∷ foreign (codes "f\ng") (codes "a") (codes "K") (codes "v") ∷ foreign (codes "f") (codes "a") (codes "K") (codes "v#w") ∷ [])
    ≡ true ∷ false ∷ false ∷ false ∷ true ∷ false ∷ []

-- so the first such is found, if there is one
abbrev pub UnsaidRows : Type 0
UnsaidRows =
    first_unsaid (foreign (codes "f") (codes "a") (codes "K") (codes "v") ∷ foreign (codes "f") (codes "b") (codes "K=") (codes "v") ∷ foreign (codes "f") (codes "c") (codes "K=") (codes "v") ∷ [])
    ∷ first_unsaid [] ∷ []
    ≡ Some (foreign (codes "f") (codes "b") (codes "K=") (codes "v")) ∷ None ∷ []

-- ---- near

-- A pattern of a database is at the first file and line that gives it a property.
abbrev pub PatternRows : Type 0
PatternRows =
    database_patterns some_tree
    ≡ record { path = usr_path; file = 1; line = 2; pattern = codes "a*" } ∷ record { path = etc_path; file = 2; line = 4; pattern = codes "ab" } ∷ []

-- three are told, or as many as is said
abbrev pub LimitRows : Type 0
LimitRows = map near_limit (None ∷ Some 0 ∷ Some 7 ∷ []) ≡ 3 ∷ 0 ∷ 7 ∷ []

-- as text and as JSON
abbrev pub NearRows : Type 0
NearRows =
    near_form false (codes "ab") 1 (record { path = codes "f"; file = 0; line = 3; pattern = codes "a*" } ∷ [])
    ∷ near_form true (codes "ab") 1 (record { path = codes "f"; file = 0; line = 3; pattern = codes "a*" } ∷ []) ∷ []
    ≡ codes "f:3: the pattern matches\n    a*\n"
    ∷ codes "{\"path\":\"f\",\"line\":3,\"pattern\":\"a*\",\"pattern_byte\":2,\"device\":\"ab\",\"device_byte\":2,\"matches\":true}\n" ∷ []

-- ---- what is read

-- devices that standard input names: a line each, the last one also without its end
abbrev pub LineRows : Type 0
LineRows = map devices_of (codes "a\nb\n" ∷ codes "a\n\nb" ∷ codes "" ∷ []) ≡ (codes "a" ∷ codes "b" ∷ []) ∷ (codes "a" ∷ [] ∷ codes "b" ∷ []) ∷ [] ∷ []

-- the one file that `ask` reads is the first of /etc
abbrev pub LoneRows : Type 0
LoneRows =
    (lone (codes "a\n") ≡ record { name = codes "1.hwdb"; bytes = codes "a\n" } ∷ []) × (lone_choice ≡ record { from_etc = true; name = codes "1.hwdb"; priority = 1 })

-- ---- a value entry
-- An offset in 8 bytes, the least one first.
abbrev pub offset : ℕ → List ℕ
offset at = at ∷ 0 ∷ 0 ∷ 0 ∷ 0 ∷ 0 ∷ 0 ∷ 0 ∷ []

-- As hwdb-internal.h lays it out: the offsets of key, value and path, the line in 4 bytes, the priority in 2, and 2 without a meaning. Its
-- strings come after it here, each with a byte 0 at its end.
abbrev pub entry_bytes : List ℕ
entry_bytes =
    offset 32 ++ (offset 35 ++ (offset 37 ++ (7 ∷ 1 ∷ 0 ∷ 0 ∷ 2 ∷ 0 ∷ 0 ∷ 0 ∷ (codes " K" ++ (0 ∷ (codes "1" ++ (0 ∷ (codes "f" ++ (0 ∷ [])))))))))

abbrev pub EntryRows : Type 0
EntryRows = value_at entry_bytes 0 ≡ record { priority = 2; line = 263; key = codes " K"; value = codes "1"; path = codes "f" }
