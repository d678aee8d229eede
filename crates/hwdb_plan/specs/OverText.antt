-- `--text` as a function from plans to plans. The text files of both folders are compiled as an update would do it. Then the plan goes on over
-- the files as they are, but that the database of /etc has these bytes. Nothing is written. Our choice.
use Rattle.std.specs.Prelude.{◌++◌, ℕ, Bool, false, true, List, None, Option, Some}
use Rattle.std.specs.Str.{bytes_eq}
use Rattle.hwdb_spec_commands.specs.Asked.{database_path}
use Rattle.hwdb_spec_commands.specs.Replacements.{masked_form, replaced_form, replacements_for}
use Rattle.hwdb_spec_commands.specs.Status.{masked_paths}
use Rattle.hwdb_spec_commands.specs.Told.Stop.{Says}
use Rattle.hwdb_plan.specs.Folders.{Texts, texts_of_folders}
use Rattle.hwdb_plan.specs.Plans.{End, Plan, over}
use Rattle.hwdb_plan.specs.Plans.End.{Answers, Stops}
use Rattle.hwdb_plan.specs.Plans.Plan.{Compile, Database, Decode, Done, Folder, Ignored, Input, Inspect, Names, Spell, Text}
use Rattle.hwdb_plan.specs.Sides.{made_of, taken_from}

-- ---- what is said besides
-- an end with a text after what is printed; only an answer is followed by one
abbrev pub with_after : (text : List ℕ) → End → End
with_after text (Answers status err out) = Answers status err (out ++ text)
with_after text e = e

-- a plan with that text after what its ends print
unfoldable pub said_after : (text : List ℕ) → Plan → Plan
said_after text (Done e) = Done (with_after text e)
said_after text (Input path next) = Input path (λ r. said_after text (next r))
said_after text (Text path next) = Text path (λ r. said_after text (next r))
said_after text (Database path next) = Database path (λ r. said_after text (next r))
said_after text (Names folder next) = Names folder (λ r. said_after text (next r))
said_after text (Folder path next) = Folder path (λ r. said_after text (next r))
said_after text (Ignored folder next) = Ignored folder (λ r. said_after text (next r))
said_after text (Spell at next) = Spell at (λ p. said_after text (next p))
said_after text (Inspect bytes next) = Inspect bytes (λ t. said_after text (next t))
said_after text (Decode bytes bad next) = Decode bytes bad (λ t. said_after text (next t))
said_after text (Compile etc usr most bad next) = Compile etc usr most bad (λ bytes. said_after text (next bytes))

-- what `explain` says besides of a device, by the text files: which assignments were replaced, and which files are masked
abbrev pub replaced_of : (json : Bool) (device : List ℕ) → Texts → List ℕ
replaced_of json device texts =
    replaced_form json device (replacements_for device (taken_from true texts.chosen texts.texts) (taken_from false texts.chosen texts.texts))
    ++ masked_form json (masked_paths texts.listed texts.chosen)

-- ---- what is answered from
-- the database that an update would write now, and what is said besides
pub record Basis : Type 0 where
  pub database : List ℕ
  pub besides : List ℕ

-- a database with such a text
abbrev pub basis : (besides database : List ℕ) → Basis
basis besides database = record { database = database; besides = besides }

-- the same of chosen files: these make it that are taken from each folder
abbrev pub basis_of : (besides : Texts → List ℕ) → Texts → (Basis → Plan) → Plan
basis_of besides texts next =
    made_of (taken_from true texts.chosen texts.texts) (taken_from false texts.chosen texts.texts) (λ database. next (basis (besides texts) database))

-- the same of the text files of both folders below a root
abbrev pub basis_now : (root : List ℕ) (besides : Texts → List ℕ) → (Basis → Plan) → Plan
basis_now root besides next = texts_of_folders root (λ texts. basis_of besides texts next)

-- ---- a plan with `--text`
-- a path is that of the database of /etc below a root, which is asked first
abbrev pub is_first : (root path : List ℕ) → Bool
is_first root path = bytes_eq path (database_path false root)

-- a plan from that basis on
abbrev pub from_basis : (root : List ℕ) → Plan → Basis → Plan
from_basis root p b = said_after b.besides (over (is_first root) b.database p)

-- a plan over the text files
abbrev pub text_plan : (root : List ℕ) (besides : Texts → List ℕ) → Plan → Plan
text_plan root besides p = basis_now root besides (from_basis root p)

-- the same if the other words fit `--text`; else nothing is asked, and this is said of them
abbrev pub if_fit : (misuse : Option (List ℕ)) → Plan → Plan
if_fit None p = p
if_fit (Some text) p = Done (Stops (Says text))
