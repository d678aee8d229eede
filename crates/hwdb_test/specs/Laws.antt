-- What the laws say of test files.
use Rattle.std.specs.Prelude.{Bool, true, false, List, [], None, ◌∷◌, ◌++◌, ◌≡◌, ◌≢◌, ◌↔◌, All, map, ℕ}
use Rattle.hwdb_spec.specs.Answers.{effective_of}
use Rattle.hwdb_spec.specs.Assignment.{Assignment}
use Rattle.hwdb_spec.specs.Folders.{Source}
use Rattle.hwdb_spec.specs.Lines.{Line, key, value}
use Rattle.hwdb_spec.specs.Tree.{Tree, answers}
use Rattle.hwdb_spec_commands.specs.Recorded.{recorded_text, unsaid_among}
use Rattle.hwdb_spec_commands.specs.Wanted.{Record, counting, held, holds, line_text, no_record, records, test_status}
use Rattle.hwdb_test.specs.Views.{pair_of}

-- The values that are told of a device are those that the effective list has.
abbrev pub CountingAreEffective : Type 0
CountingAreEffective = (answers : List Assignment) → map pair_of (counting answers) ≡ effective_of answers

-- A line that fails is told.
abbrev pub FailingIsTold : Type 0
FailingIsTold =
    (json : Bool) (path device : List ℕ) (all : List Line) (answers : List Assignment) (l : Line) → holds all (effective_of answers) l ≡ false
    → line_text json path device all answers l ≢ []

-- Of a line that holds nothing is said.
abbrev pub HoldingIsSilent : Type 0
HoldingIsSilent =
    (json : Bool) (path device : List ℕ) (all : List Line) (answers : List Assignment) (l : Line) → holds all (effective_of answers) l ≡ true
    → line_text json path device all answers l ≡ []

-- The status is 0 exactly if each wanted line holds.
abbrev pub ZeroIfAllHold : Type 0
ZeroIfAllHold = (files : List Source) (t : Tree) → (test_status files t ≡ 0) ↔ All (λ h. h ≡ true) (held t files)

-- a test file with this text holds of a database: each of its lines does, for each of its devices
abbrev pub holds_of : Tree → (path text : List ℕ) → Type 0
holds_of t path text = test_status (record { name = path; bytes = text } ∷ []) t ≡ 0

-- If a test file can say what a database gives some devices, it holds of that.
abbrev pub RecordedHolds : Type 0
RecordedHolds = (t : Tree) (devices : List (List ℕ)) (path : List ℕ) → unsaid_among t devices ≡ None → holds_of t path (recorded_text t devices)

-- the properties that a device has, as the lines of its record want them; ` =` alone has no key and no value
abbrev pub as_wanted : List (List ℕ × List ℕ) → List (List ℕ × List ℕ)
as_wanted [] = ([], []) ∷ []
as_wanted (p ∷ more) = p ∷ more

-- the devices of a record, and what each of its lines wants, by key
abbrev pub wishes : Record → List (List ℕ) × List (List ℕ × List ℕ)
wishes r = (r.devices, map (λ l. (key l, value l)) r.lines)

-- what is recorded of a device
abbrev pub wishes_of : Tree → (device : List ℕ) → List (List ℕ) × List (List ℕ × List ℕ)
wishes_of t device = (device ∷ [], as_wanted (effective_of (answers device t)))

-- What is read of it is a record for each device, in their order, and after them one without lines.
abbrev pub RecordedIsRead : Type 0
RecordedIsRead =
    (t : Tree) (devices : List (List ℕ)) → unsaid_among t devices ≡ None
    → map wishes (records (recorded_text t devices)) ≡ map (wishes_of t) devices ++ wishes no_record ∷ []
