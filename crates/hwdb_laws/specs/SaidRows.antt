-- Worked rows of what `verify`, `update --verbose`, `explain`, `near` and `--text` say.
use Rattle.std.specs.Prelude.{◌++◌, ◌∷◌, ◌≡◌, List, None, Some, [], codes, false, map, true, ℕ}
use Rattle.hwdb_spec.specs.Assignment.{Assignment}
use Rattle.hwdb_spec.specs.Explanations.{explained, explanations_text}
use Rattle.hwdb_spec.specs.Folders.{Source}
use Rattle.hwdb_spec_program.specs.Hiding.{hiding_text}
use Rattle.hwdb_spec_commands.specs.Near.{PatternAt, near_json, near_text}
use Rattle.hwdb_spec_commands.specs.Progress.{deep_line, update_text}
use Rattle.hwdb_spec.specs.Store.{Contents, database_file}
use Rattle.hwdb_spec_commands.specs.Summary.{depth_warning, summary_of, summary_text}
use Rattle.hwdb_spec.specs.Tree.{Tree, Value}
use Rattle.hwdb_spec.specs.Tree.Children.{Child, NoMore}
use Rattle.hwdb_spec.specs.Tree.Tree.{Node}

-- ---- verify

-- a value of a node
abbrev pub stored : (key path : List ℕ) → Value
stored key path = record { priority = 1; line = 2; key = codes " " ++ key; value = codes "1"; path = path }

-- A tree of four nodes, three below one another. Two files assign three values to two patterns, by two keys.
abbrev pub some_tree : Tree
some_tree =
    Node [] []
    (Child 97 (Node (codes "b") (stored (codes "K") (codes "f") ∷ stored (codes "L") (codes "g") ∷ []) (Child 99 (Node [] (stored (codes "K") (codes "f") ∷ []) NoMore) NoMore))
    (Child 98 (Node [] [] NoMore) NoMore))

-- what it has, and that of a tree of 2,048 nodes below one another nothing is said besides
abbrev pub SummaryRows : Type 0
SummaryRows =
    (summary_text (summary_of 500 some_tree) ≡ codes "files: 2\npatterns: 2\nkeys: 2\nassignments: 3\nnodes: 4\ndepth: 3\nbytes: 500\n")
    × (map depth_warning (2048 ∷ 2049 ∷ []) ≡ [] ∷ codes "warning: udev of systemd 262 refuses a depth of more than 2048\n" ∷ [])

-- ---- update --verbose

-- a text file
abbrev pub source : (name text : List ℕ) → Source
source name text = record { name = name; bytes = text }

-- the files of both folders: of /etc one that masks, of /usr/lib that one and another, which has a fault
abbrev pub of_etc : List Source
of_etc = source (codes "2.hwdb") (codes "a\na\n A=1\n\na\n A=2\n") ∷ []

abbrev pub of_usr : List Source
of_usr = source (codes "2.hwdb") (codes "b\n B=1\n") ∷ source (codes "1.hwdb") (codes " C=1\n") ∷ []

-- A file of /etc masks that of its name in /usr/lib, and files come by name. What a later line replaces isn't kept. A pattern that stands
-- twice in a record counts once. Faults come at the end.
abbrev pub ProgressRows : Type 0
ProgressRows =
    update_text (Some (codes "2.hwdb" ∷ codes "1.hwdb" ∷ [])) of_etc of_usr 3
    ≡ codes "/usr/lib/udev/hwdb.d/1.hwdb\n/etc/udev/hwdb.d/2.hwdb masks /usr/lib/udev/hwdb.d/2.hwdb\n2 files, 2 assignments, 1 kept\n"
    ++ codes "/usr/lib/udev/hwdb.d/1.hwdb:1: property where a match is expected, ignored\n"

-- without `--verbose` the faults alone
abbrev pub FaultRows : Type 0
FaultRows = update_text None of_etc of_usr 2049 ≡ codes "/usr/lib/udev/hwdb.d/1.hwdb:1: property where a match is expected, ignored\n"

-- a depth that udev refuses is told, and one less isn't
abbrev pub DeepRows : Type 0
DeepRows = map deep_line (2048 ∷ 2049 ∷ []) ≡ [] ∷ codes "warning: the depth is 2049: udev of systemd 262 refuses more than 2048\n" ∷ []

-- nothing is anywhere
abbrev pub nothing : Contents
nothing path = None

-- something is everywhere
abbrev pub something : Contents
something path = Some (database_file [])

-- With `--usr` and `--verbose` alone, and only if /etc has a database.
abbrev pub HidingRows : Type 0
HidingRows =
    hiding_text true true (codes "/r") something ∷ hiding_text true true (codes "/r") nothing ∷ hiding_text false true (codes "/r") something
    ∷ hiding_text true false (codes "/r") something ∷ []
    ≡ codes "/r/etc/udev/hwdb.bin hides /r/usr/lib/udev/hwdb.bin: it is asked first\n" ∷ [] ∷ [] ∷ [] ∷ []

-- ---- explain

-- an answer of a line
abbrev pub answer : (line : ℕ) (pattern key value : List ℕ) → Assignment
answer line pattern key value = record { position = record { priority = 1; line = line; pattern = pattern; key = key }; value = value; path = codes "f" }

-- Keys ascend. Of each the last answer comes first, and those before it are what it overrides, the last of them first.
abbrev pub ExplainRows : Type 0
ExplainRows =
    explanations_text (explained (answer 2 (codes "a*") (codes "L") (codes "1") ∷ answer 3 (codes "a*") (codes "K") (codes "1") ∷ answer 5 (codes "ab*") (codes "K") (codes "2") ∷ answer 7 (codes "abc") (codes "K") (codes "3") ∷ []))
    ≡ codes "K=3\n    f:7  abc\n  overrides K=2\n    f:5  ab*\n  overrides K=1\n    f:3  a*\nL=1\n    f:2  a*\n"

-- ---- near

-- a pattern of a file
abbrev pub placed : (line : ℕ) (pattern : List ℕ) → PatternAt
placed line pattern = record { path = codes "f"; file = 0; line = line; pattern = pattern }

-- What matches comes first, by its line. Then come those that don't, the nearest first, with a mark below the first byte that can't be.
abbrev pub NearRows : Type 0
NearRows =
    near_text (codes "p:vAd1") 1 (placed 1 (codes "p:vBx2y") ∷ placed 2 (codes "p:vAd2") ∷ placed 3 (codes "p:v*") ∷ [])
    ≡ codes "f:3: the pattern matches\n    p:v*\n"
    ++ codes "f:2: the device has `1`, the pattern `2`\n    p:vAd2\n         ^\n    p:vAd1\n         ^\n"

-- As JSON the places are counted in the pattern and in the device: a star may stand for several bytes.
abbrev pub NearJsonRows : Type 0
NearJsonRows =
    near_json (codes "p:vAd1") 1 (placed 2 (codes "p:*d2") ∷ placed 3 (codes "p:v*") ∷ [])
    ≡ codes "{\"path\":\"f\",\"line\":3,\"pattern\":\"p:v*\",\"pattern_byte\":4,\"device\":\"p:vAd1\",\"device_byte\":6,\"matches\":true}\n"
    ++ codes "{\"path\":\"f\",\"line\":2,\"pattern\":\"p:*d2\",\"pattern_byte\":4,\"device\":\"p:vAd1\",\"device_byte\":5,\"matches\":false}\n"
