-- The plan of `status`: the text files of both folders, the ignored ones beside them, what `update` would make of them, and both databases.
-- `update --check` follows it, and is told the status alone. Our choice, but for what `update` makes.
use Rattle.std.specs.FinMap as finite
use Rattle.std.specs.Option.{option_or}
use Rattle.std.specs.Prelude.{◌==◌, ◌∷◌, ℕ, Bool, true, false, List, [], None, Option, Some, Result, Ok, Err, if◌then◌else◌, is_some, length, option_map}
use Rattle.hwdb_spec.specs.Assignment.{Assignment}
use Rattle.hwdb_spec.specs.Folders.{Source, same}
use Rattle.hwdb_spec.specs.System.{etc_files, usr_files}
use Rattle.hwdb_spec.specs.Tree.{Map, Tree, map_of, map_of_files}
use Rattle.hwdb_spec_commands.specs.Asked.{database_path}
use Rattle.hwdb_spec_commands.specs.Differences.{differences}
use Rattle.hwdb_spec_commands.specs.Status.{Amount, Report, State, amount_of, ignored_paths, is_bare, masked_paths, report_form, report_of, stale_by, status_of}
use Rattle.hwdb_spec_commands.specs.Status.Amount.{Uncounted}
use Rattle.hwdb_spec_commands.specs.Status.State.{Alike, Broken, Fresh, Missing}
use Rattle.hwdb_spec_commands.specs.Summary.{summary_of}
use Rattle.hwdb_spec_commands.specs.Told.{unread_stop}
use Rattle.hwdb_spec_commands.specs.declared.unread.Unread.{Unread}
use Rattle.hwdb_plan.specs.Folders.{Texts, texts_of_folders}
use Rattle.hwdb_plan.specs.Plans.{End, Plan}
use Rattle.hwdb_plan.specs.Plans.End.{Answers, Stops}
use Rattle.hwdb_plan.specs.Plans.Plan.{Database, Done, Ignored, Inspect}
use Rattle.hwdb_plan.specs.Sides.{made_of, taken_from}
use Rattle.hwdb_plan.specs.Update.{if_seen}

-- ---- what the text files make
-- what follows the names of a folder's ignored files, or the error if the folder can't be listed
abbrev pub if_ignored : (folder : List ℕ) → (List (List ℕ) → Plan) → Result (List (List ℕ)) Unread → Plan
if_ignored folder next (Ok names) = next names
if_ignored folder next (Err w) = Done (Stops (unread_stop folder w))

-- those names
abbrev pub ignored_of : (folder : List ℕ) → (List (List ℕ) → Plan) → Plan
ignored_of folder next = Ignored folder (if_ignored folder next)

-- the paths of the ignored files of both folders
abbrev pub ignored_below : (root : List ℕ) → (List (List ℕ) → Plan) → Plan
ignored_below root next = ignored_of (etc_files root) (λ etc. ignored_of (usr_files root) (λ usr. next (ignored_paths etc usr)))

-- what text files make now: what they assign, the bytes of that, whether there are none, and which of them are masked or ignored
pub record Now : Type 0 where
  pub assigned : Map
  pub bytes : List ℕ
  pub bare : Bool
  pub masked : List (List ℕ)
  pub ignored : List (List ℕ)

-- the same of these files
abbrev pub now_of : Texts → (ignored : List (List ℕ)) (etc usr : List Source) (bytes : List ℕ) → Now
now_of texts ignored etc usr bytes = record {
  assigned = map_of_files etc usr;
  bytes = bytes;
  bare = is_bare texts.chosen;
  masked = masked_paths texts.listed texts.chosen;
  ignored = ignored;
}

-- the same of chosen files: these make it that are taken from each folder
abbrev pub made_if : Texts → (ignored : List (List ℕ)) → (Now → Plan) → Plan
made_if texts ignored next =
    made_of (taken_from true texts.chosen texts.texts) (taken_from false texts.chosen texts.texts)
    (λ bytes. next (now_of texts ignored (taken_from true texts.chosen texts.texts) (taken_from false texts.chosen texts.texts) bytes))

-- the text files of both folders are read before the ignored ones are asked
abbrev pub made_now : (root : List ℕ) → (Now → Plan) → Plan
made_now root next = texts_of_folders root (λ texts. ignored_below root (λ ignored. made_if texts ignored next))

-- ---- the databases
-- of which folders there is a database, the one that is asked, and the one that it hides
pub record InPlaces : Type 0 where
  pub etc : Bool
  pub usr : Bool
  pub asked : Option (List ℕ)
  pub hidden : Option (List ℕ)

-- what there is in both places
abbrev pub in_places : (etc usr : Option (List ℕ)) → InPlaces
in_places etc usr = record {
  etc = is_some etc;
  usr = is_some usr;
  asked = option_or etc usr;
  hidden = if is_some etc then usr else None;
}

-- what there may be in the place of a database
abbrev pub seen_at : (path : List ℕ) → (Option (List ℕ) → Plan) → Plan
seen_at path next = Database path (if_seen path next)

-- that of /etc is read first
abbrev pub databases_of : (root : List ℕ) → (InPlaces → Plan) → Plan
databases_of root next = seen_at (database_path false root) (λ etc. seen_at (database_path true root) (λ usr. next (in_places etc usr)))

-- bytes, and the tree whose database they are, if they are one
pub record Held : Type 0 where
  pub bytes : List ℕ
  pub tree : Option Tree

-- some bytes with their tree
abbrev pub held : (bytes : List ℕ) → Option Tree → Held
held bytes tree = record { bytes = bytes; tree = tree }

-- the same of bytes that there may be
abbrev pub looked_at : Option (List ℕ) → (Option Held → Plan) → Plan
looked_at None next = next None
looked_at (Some bytes) next = Inspect bytes (λ tree. next (Some (held bytes tree)))

-- ---- what is said of them
-- two assignments say the same, in all that is stored of them
abbrev pub is_one : (a b : Assignment) → Bool
is_one a b =
    if a.position.priority == b.position.priority
    then (if a.position.line == b.position.line
    then (if same a.position.pattern b.position.pattern
    then (if same a.position.key b.position.key then (if same a.value b.value then same a.path b.path else false) else false)
    else false)
    else false)
    else false

-- so do the entries of two maps at a pattern and a key
abbrev pub is_one_at : (x y : (List ℕ × List ℕ) × Assignment) → Bool
is_one_at x y = if same x.0.0 y.0.0 then (if same x.0.1 y.0.1 then is_one x.1 y.1 else false) else false

-- and all of them, one after another
unfoldable pub are_one : (some others : List ((List ℕ × List ℕ) × Assignment)) → Bool
are_one [] [] = true
are_one [] (y ∷ ys) = false
are_one (x ∷ xs) [] = false
are_one (x ∷ xs) (y ∷ ys) = if is_one_at x y then are_one xs ys else false

-- two maps say the same
abbrev pub say_one : (m n : Map) → Bool
say_one m n = are_one (finite.entries m) (finite.entries n)

-- the state of bytes that aren't those that were made: they say the same, or else there are changes to what was assigned
abbrev pub state_of_tree : Map → Option Tree → State
state_of_tree m None = Broken
state_of_tree m (Some t) = if say_one (map_of t) m then Alike else stale_by (differences (map_of t) m)

-- the state of a database that there may be, beside what was made
abbrev pub state_beside : Now → Option Held → State
state_beside now None = Missing
state_beside now (Some h) = if same h.bytes now.bytes then Fresh else state_of_tree now.assigned h.tree

-- how much is in some bytes
abbrev pub amount_in : (bytes : List ℕ) → Option Tree → Amount
amount_in bytes None = Uncounted (length bytes)
amount_in bytes (Some t) = amount_of (summary_of (length bytes) t)

-- the same of bytes with their tree
abbrev pub amount_held : Held → Amount
amount_held h = amount_in h.bytes h.tree

-- what is reported
abbrev pub report_beside : (root : List ℕ) → Now → InPlaces → (asked hidden : Option Held) → Report
report_beside root now places asked hidden =
    report_of root places.etc places.usr (option_map amount_held asked) (option_map amount_held hidden) now.masked now.ignored now.bare (state_beside now asked)

-- how that is said
abbrev pub report_end : (json quiet : Bool) → Report → End
report_end json quiet r = Answers (status_of r) [] (report_form json quiet r)

-- ---- the command
-- both databases are read, and then looked at
abbrev pub report_plan : (root : List ℕ) (json quiet : Bool) → Now → Plan
report_plan root json quiet now =
    databases_of root
    (λ places. looked_at places.asked
    (λ asked. looked_at places.hidden (λ hidden. Done (report_end json quiet (report_beside root now places asked hidden)))))

-- after what the text files make
abbrev pub status_plan : (root : List ℕ) (json quiet : Bool) → Plan
status_plan root json quiet = made_now root (report_plan root json quiet)
