-- What `status` says: which database is asked, which one it hides, how much is in each, and which text files are masked or ignored.
-- And whether the asked one says what the text files say. `update --check` has its status, and says nothing. Both are our choice.
use Rattle.std.specs.Prelude.{◌++◌, ◌-◌, ◌∷◌, ◌≡◌, ◌≢◌, ◌≤◌, Bool, List, None, Option, Some, [], codes, false, flat_map, if◌then◌else◌, is_some, length, map, suc, take, true, unwrap_or, ℕ}
use Rattle.json.specs.Json.{Json, null}
use Rattle.hwdb_spec_commands.specs.Asked.{database_path}
use Rattle.hwdb_spec.specs.Assignment.{ascending}
use Rattle.hwdb_spec_commands.specs.Checks.{count_text}
use Rattle.hwdb_spec_commands.specs.Commands.{removing_words, update_words}
use Rattle.hwdb_spec_commands.specs.Differences.{Change, change_text, differences}
use Rattle.hwdb_spec.specs.Folders.{AreAccepted, Choice, Source}
use Rattle.hwdb_spec.specs.Format.{IsDatabase}
use Rattle.hwdb_spec_commands.specs.Json.{array_of, json_line, number_json, object_of, text_json}
use Rattle.hwdb_spec.specs.Lines.{byte}
use Rattle.hwdb_spec_commands.specs.Progress.{masks}
use Rattle.hwdb_spec_commands.specs.Readable.{AreAllRead}
use Rattle.hwdb_spec.specs.Store.{Contents}
use Rattle.hwdb_spec_commands.specs.Summary.{Summary, count_line, summary_of}
use Rattle.hwdb_spec.specs.System.{AreFilesIn, bytes_at, etc_files, usr_files}
use Rattle.hwdb_spec.specs.Texts.{max_file}
use Rattle.hwdb_spec.specs.Tree.{Map, Tree, map_of, map_of_files}
use Rattle.hwdb_spec.specs.Visible.{shown_name}
use Rattle.hwdb_spec.specs.Written.{IsWritten}

-- ---- how a database is, beside what the text files make

-- The state of the asked database: there is none, its bytes are none, or they are those that the text files make. Or they are
-- others that say the same, as another tool writes them. A stale one says something else. It has so many changes to what the text
-- files make, of which the first has this line.
pub data State : Type 0 where
  Missing : State
  Broken : State
  Fresh : State
  Alike : State
  Stale : (changes : ℕ) (first : List ℕ) → State

-- the line of the first of some changes, as `diff` prints it; nothing if there is none
abbrev pub first_text : List Change → List ℕ
first_text [] = []
first_text (change ∷ more) = change_text change

-- a stale database with these changes
abbrev pub stale_by : List Change → State
stale_by changes = Stale (length changes) (first_text changes)

-- Some bytes are a database that says the same as a map: at each pattern and key the same value, priority, line and path.
abbrev pub IsOfMap : Map → (bytes : List ℕ) → Type 0
IsOfMap m bytes = (t : Tree) × IsDatabase bytes t × (map_of t ≡ m)

-- They are one that says something else, and has these changes to the map. There may be none, since a change is of a value alone.
abbrev pub IsBeside : Map → (bytes : List ℕ) → State → Type 0
IsBeside m bytes state = (t : Tree) × IsDatabase bytes t × (map_of t ≢ m) × (state ≡ stale_by (differences (map_of t) m))

-- The state of some bytes: fresh exactly if they are the ones made. Else it goes by whether they are a database, and whether it
-- says the same as the map of those.
abbrev pub IsStateOf : (made : List ℕ) → Map → (bytes : List ℕ) → State → Type 0
IsStateOf made m bytes Missing = ⊥
IsStateOf made m bytes Fresh = bytes ≡ made
IsStateOf made m bytes Broken = (bytes ≢ made) × ((t : Tree) → IsDatabase bytes t → ⊥)
IsStateOf made m bytes Alike = (bytes ≢ made) × IsOfMap m bytes
IsStateOf made m bytes (Stale changes first) = (bytes ≢ made) × IsBeside m bytes (Stale changes first)

-- the state of the database that is asked, if there is one
abbrev pub IsState : (made : List ℕ) → Map → (asked : Option (List ℕ)) → State → Type 0
IsState made m None state = state ≡ Missing
IsState made m (Some bytes) state = IsStateOf made m bytes state

-- ---- how much is in a database

-- How much is in some bytes: of a database files, assignments and bytes, as `verify` counts them. Of others only bytes.
pub data Amount : Type 0 where
  Counted : (files assignments bytes : ℕ) → Amount
  Uncounted : (bytes : ℕ) → Amount

-- what is told of a summary
abbrev pub amount_of : Summary → Amount
amount_of s = Counted s.files s.assignments s.bytes

-- this is in these bytes
abbrev pub IsAmountOf : (bytes : List ℕ) → Amount → Type 0
IsAmountOf bytes (Counted files assignments size) =
    (t : Tree) × IsDatabase bytes t × (Counted files assignments size ≡ amount_of (summary_of (length bytes) t))
IsAmountOf bytes (Uncounted size) = ((t : Tree) → IsDatabase bytes t → ⊥) × (size ≡ length bytes)

-- this is in bytes that there may be
abbrev pub IsAmount : Option (List ℕ) → Option Amount → Type 0
IsAmount None amount = amount ≡ None
IsAmount (Some bytes) None = ⊥
IsAmount (Some bytes) (Some amount) = IsAmountOf bytes amount

-- an amount in words
abbrev pub amount_words : Amount → List ℕ
amount_words (Counted files assignments size) =
    count_text files (codes "file") ++ (codes ", " ++ (count_text assignments (codes "assignment") ++ (codes ", " ++ count_text size (codes "byte"))))
amount_words (Uncounted size) = count_text size (codes "byte")

-- ---- what is said

-- What `status` reports: the paths of the asked database and of the one it hides, with how much is in each. Those of masked and of
-- ignored text files. Whether there are no text files at all. Then the asked one's state, and the command after which it is fresh and
-- hides none, if there is one.
pub record Report : Type 0 where
  pub database : Option (List ℕ)
  pub holds : Option Amount
  pub hides : Option (List ℕ)
  pub hidden : Option Amount
  pub masked : List (List ℕ)
  pub ignored : List (List ℕ)
  pub bare : Bool
  pub state : State
  pub remedy : Option (List ℕ)

-- it says what the text files say
abbrev pub is_fresh : State → Bool
is_fresh Fresh = true
is_fresh Alike = true
is_fresh state = false

-- it is fresh and hides none, and there are text files
abbrev pub is_well : (bare : Bool) → State → (hides : Option (List ℕ)) → Bool
is_well false state None = is_fresh state
is_well bare state hides = false

-- then 0, else 1
abbrev pub status_of : Report → ℕ
status_of r = if is_well r.bare r.state r.hides then 0 else 1

-- the word of a state: without text files a database that assigns nothing is empty, and not fresh
abbrev pub state_word : (bare : Bool) → State → List ℕ
state_word bare Missing = codes "missing"
state_word bare Broken = codes "no database"
state_word bare Fresh = if bare then codes "empty" else codes "fresh"
state_word bare Alike = if bare then codes "empty" else codes "fresh"
state_word bare (Stale changes first) = codes "stale"

-- what is said after the word: that there are no text files, or that another tool wrote the database
abbrev pub state_note : (bare : Bool) → State → List ℕ
state_note true state = codes " (there are no text files)"
state_note false Alike = codes " (written by another tool)"
state_note false state = []

-- a line of words: a name, and what is said of it
abbrev pub words_line : (name words : List ℕ) → List ℕ
words_line name words = name ++ (codes ": " ++ (words ++ byte "\n" ∷ []))

-- a line: a name, `: ` and a text, which may be a path, as names are shown
abbrev pub said_line : (name text : List ℕ) → List ℕ
said_line name text = words_line name (shown_name text)

-- the same of a text that there may be
abbrev pub said_if : (name : List ℕ) → Option (List ℕ) → List ℕ
said_if name None = []
said_if name (Some text) = said_line name text

-- the line of an amount that there may be
abbrev pub amount_line : Option Amount → List ℕ
amount_line None = []
amount_line (Some amount) = words_line (codes "holds") (amount_words amount)

-- the line of the first change, if there is one
abbrev pub first_line : (first : List ℕ) → List ℕ
first_line [] = []
first_line (b ∷ more) = codes "first: " ++ b ∷ more

-- how many changes there are, and the first
abbrev pub changes_lines : State → List ℕ
changes_lines (Stale changes first) = count_line (codes "changes") changes ++ first_line first
changes_lines state = []

-- what to run, if there is such a command
abbrev pub remedy_line : Report → List ℕ
remedy_line r = said_if (codes "run") r.remedy

-- the report as lines
abbrev pub report_text : Report → List ℕ
report_text r =
    said_line (codes "database") (unwrap_or r.database (codes "none"))
    ++ (amount_line r.holds
    ++ (said_if (codes "hides") r.hides
    ++ (amount_line r.hidden
    ++ (flat_map (said_line (codes "masked")) r.masked
    ++ (flat_map (said_line (codes "ignored")) r.ignored
    ++ (words_line (codes "state") (state_word r.bare r.state ++ state_note r.bare r.state) ++ (changes_lines r.state ++ remedy_line r)))))))

-- a text that there may be
abbrev pub maybe_json : Option (List ℕ) → Json
maybe_json None = null
maybe_json (Some text) = text_json text

-- the members of an amount
abbrev pub amount_members : Amount → List (List ℕ × Json)
amount_members (Counted files assignments size) =
    (codes "files", number_json files) ∷ (codes "assignments", number_json assignments) ∷ (codes "bytes", number_json size) ∷ []
amount_members (Uncounted size) = (codes "bytes", number_json size) ∷ []

-- an amount that there may be
abbrev pub amount_json : Option Amount → Json
amount_json None = null
amount_json (Some amount) = object_of (amount_members amount)

-- a text without its last byte, the end of its line
abbrev pub without_end : List ℕ → List ℕ
without_end text = take (length text - 1) text

-- the member of a report without text files
abbrev pub bare_members : (bare : Bool) → List (List ℕ × Json)
bare_members true = (codes "text_files", text_json (codes "none")) ∷ []
bare_members false = []

-- the members of a database that another tool wrote, and of a stale one
abbrev pub state_members : State → List (List ℕ × Json)
state_members Alike = (codes "written_by", text_json (codes "another tool")) ∷ []
state_members (Stale changes first) = (codes "changes", number_json changes) ∷ (codes "first", text_json (without_end first)) ∷ []
state_members state = []

-- what to run, if there is such a command
abbrev pub remedy_members : Option (List ℕ) → List (List ℕ × Json)
remedy_members None = []
remedy_members (Some remedy) = (codes "run", text_json remedy) ∷ []

-- the report as an object
abbrev pub report_object : Report → Json
report_object r =
    object_of ((codes "database", maybe_json r.database) ∷ (codes "holds", amount_json r.holds)
    ∷ (codes "hides", maybe_json r.hides) ∷ (codes "hidden", amount_json r.hidden)
    ∷ (codes "masked", array_of (map text_json r.masked)) ∷ (codes "ignored", array_of (map text_json r.ignored))
    ∷ (codes "state", text_json (state_word r.bare r.state)) ∷ (bare_members r.bare ++ (state_members r.state ++ remedy_members r.remedy)))

-- the same as a line of JSON
abbrev pub report_json : Report → List ℕ
report_json r = json_line (report_object r)

-- what is printed: lines, with `--json` one of JSON, and nothing if the status says all
abbrev pub report_form : (json quiet : Bool) → Report → List ℕ
report_form json true r = []
report_form false false r = report_text r
report_form true false r = report_json r

-- ---- what is there

-- the path of the database that is asked, by whether /etc's and /usr/lib's are there
abbrev pub path_asked : (root : List ℕ) (etc usr : Bool) → Option (List ℕ)
path_asked root true usr = Some (database_path false root)
path_asked root false true = Some (database_path true root)
path_asked root false false = None

-- the path of /usr/lib's, if /etc's hides it
abbrev pub path_hidden : (root : List ℕ) (etc usr : Bool) → Option (List ℕ)
path_hidden root true true = Some (database_path true root)
path_hidden root etc usr = None

-- The command after which the asked database is fresh and hides none. If there are two it makes that of /usr/lib anew, of the text
-- files of both folders, and removes the one that hides it.
abbrev pub renewing_words : (root : List ℕ) (etc usr : Bool) → List ℕ
renewing_words root true true = update_words true root ++ (codes " && " ++ removing_words root)
renewing_words root false true = update_words true root
renewing_words root etc false = update_words false root

-- a database assigns something
abbrev pub assigns : Option Amount → Bool
assigns (Some (Counted files (suc n) bytes)) = true
assigns amount = false

-- a database assigns nothing, or is none, and hides one that assigns something
abbrev pub hides_in_vain : State → (hidden : Option Amount) → Bool
hides_in_vain (Stale changes first) hidden = false
hides_in_vain state hidden = assigns hidden

-- Without text files an update would make an empty database. So none is told: only, if /etc's assigns nothing and hides one of
-- /usr/lib that assigns something, how to remove it.
abbrev pub unhiding_words : (root : List ℕ) → State → (hidden : Option Amount) → Option (List ℕ)
unhiding_words root state hidden = if hides_in_vain state hidden then Some (removing_words root) else None

-- The command that is told, if there is one: none if the asked database is fresh and hides none.
abbrev pub remedy_of : (root : List ℕ) (etc usr bare : Bool) → State → (hidden : Option Amount) → Option (List ℕ)
remedy_of root etc usr true state hidden = unhiding_words root state hidden
remedy_of root etc usr false state hidden = if is_well false state (path_hidden root etc usr) then None else Some (renewing_words root etc usr)

-- there are no text files
abbrev pub is_bare : List Choice → Bool
is_bare [] = true
is_bare (c ∷ chosen) = false

-- the path of the text file of /usr/lib that a chosen one masks, if it does
abbrev pub masked_of : (listed : List (List ℕ)) → Choice → List (List ℕ)
masked_of listed c = if masks listed c then (codes "/usr/lib/udev/hwdb.d/" ++ c.name) ∷ [] else []

-- the masked text files, if /usr/lib has these names
abbrev pub masked_paths : (listed : List (List ℕ)) → List Choice → List (List ℕ)
masked_paths listed chosen = flat_map (masked_of listed) chosen

-- the paths of ignored files with these names, those of /etc first
abbrev pub ignored_paths : (etc usr : List (List ℕ)) → List (List ℕ)
ignored_paths etc usr =
    map (λ (name : List ℕ). codes "/etc/udev/hwdb.d/" ++ name) (ascending etc)
    ++ map (λ (name : List ℕ). codes "/usr/lib/udev/hwdb.d/" ++ name) (ascending usr)

-- the report of what is there
abbrev pub report_of : (root : List ℕ) (etc usr : Bool) (holds hidden : Option Amount) (masked ignored : List (List ℕ)) (bare : Bool) → State → Report
report_of root etc usr holds hidden masked ignored bare state = record {
  database = path_asked root etc usr;
  holds = holds;
  hides = path_hidden root etc usr;
  hidden = hidden;
  masked = masked;
  ignored = ignored;
  bare = bare;
  state = state;
  remedy = remedy_of root etc usr bare state hidden;
}

-- whether something is in the place of the database of a folder
abbrev pub has_database : (usr : Bool) (root : List ℕ) → Contents → Bool
has_database usr root contents = is_some (bytes_at contents (database_path usr root))

-- the database of /usr/lib, if that of /etc hides it
abbrev pub hidden_database : (root : List ℕ) → Contents → Option (List ℕ)
hidden_database root contents = if has_database false root contents then bytes_at contents (database_path true root) else None

-- the text files of both folders, all of which can be read, and the database that `update` would make of them
pub record IsMade (root : List ℕ) (contents : Contents) (of_etc of_usr : List Source) (made : List ℕ) : Type 0 where
  pub in_etc : AreFilesIn (etc_files root) contents of_etc
  pub in_usr : AreFilesIn (usr_files root) contents of_usr
  pub read : AreAllRead root contents
  pub accepted : AreAccepted of_etc of_usr
  pub written : IsWritten (map_of_files of_etc of_usr) made
  pub within : length made ≤ max_file
