-- What the steps of a task hold.
use Rattle.std.specs.Prelude.{◌≡◌, ℕ, Bool, true, false, List, None, Option, Some, Ok, codes, map, string_bytes, String}
use Rattle.std.specs.Global.{Global}
use Rattle.hwdb_check.specs.declared.baselines.BaselineFault.{BaselineFault}
use Rattle.hwdb_check.specs.declared.baselines.BaselineFault.TheVariants as baseline
use Rattle.hwdb_spec_commands.specs.Baselines.{wrong_text}
use Rattle.hwdb_spec_commands.specs.Given.{is_dash}
use Rattle.hwdb_spec_commands.specs.Refusals.{IsInWords}
use Rattle.hwdb_spec_commands.specs.declared.refusals.Refusal.{Refusal}
use Rattle.hwdb_spec_commands.specs.declared.refusals.Refusal.TheVariants as refusal
use Rattle.hwdb_spec.specs.Folders.{Source}
use Rattle.hwdb_spec.specs.Store.{Contents}
use Rattle.hwdb_spec.specs.System.{AreFilesIn, bytes_at, etc_files, usr_files}
use Rattle.hwdb_text.specs.Views.{choice_of}
use Rattle.hwdb_compile.specs.Views.{AreChosenOf}
use Rattle.hwdb_spec.specs.Selected.{AreSelected}
use Rattle.hwdb_spec_commands.specs.Told.{Reads, Stop, unread_stop}
use Rattle.hwdb_spec_commands.specs.Told.Stop.{Over, Plain}
use Rattle.hwdb_spec.specs.declared.causes.Cause.{Cause}
use Rattle.hwdb_spec.specs.declared.errors.ReadError.{ReadError}
use Rattle.hwdb_spec.specs.declared.errors.ReadError.TheVariants as reading
use Rattle.hwdb_spec.specs.declared.errors.ToolError.TheVariants.{Memory, TooLong}
use Rattle.hwdb_spec_commands.specs.declared.unread.Unread.TheVariants.{Failed}
use Rattle.hwdb_plan.specs.Asking.{asked}
use Rattle.hwdb_plan.specs.Plans.{End, Ends, Next}
use Rattle.hwdb_plan.specs.Files.{is_word}
use Rattle.hwdb_system.specs.declared.folders.Selection.{Selection}
use Rattle.hwdb_text.specs.declared.choice.ChosenFile.{ChosenFile}

-- what is read of a path, if standard input has a text
abbrev pub bytes_if : (dash : Bool) (text : List ℕ) → Contents → (path : List ℕ) → Option (List ℕ)
bytes_if true text contents path = Some text
bytes_if false text contents path = bytes_at contents path

abbrev pub bytes_given : (text : List ℕ) → Contents → (path : List ℕ) → Option (List ℕ)
bytes_given text contents path = bytes_if (is_dash path) text contents path

-- the texts are what is read of the paths
abbrev pub AreTextsGiven : (text : List ℕ) → Contents → (paths texts : List (List ℕ)) → Type 0
AreTextsGiven text contents paths texts = map Some texts ≡ map (bytes_given text contents) paths

-- each of some strings is a word
abbrev pub AreWords : (some words : List (String Global)) → Type 0
AreWords some words = (path : List ℕ) → is_word (map string_bytes some) path ≡ true → is_word (map string_bytes words) path ≡ true

-- the files are the chosen ones of the folders' text files; /usr/lib's have these names
pub record AreReadOf (root : List ℕ) (contents : Contents) (listed : List (List ℕ)) (files : List ChosenFile) : Type 0 where
  pub of_etc : List Source
  pub of_usr : List Source
  pub in_etc : AreFilesIn (etc_files root) contents of_etc
  pub in_usr : AreFilesIn (usr_files root) contents of_usr
  pub named : map (λ (s : Source). s.name) of_usr ≡ listed
  pub are : AreChosenOf of_etc of_usr files

-- a selection among these files
abbrev pub IsOfSelection : (root : List ℕ) (files : Contents) → Selection → Type 0
IsOfSelection root files s = AreSelected root files (map string_bytes s.listed.items) (map choice_of s.chosen.items) (map (λ t. t.items) s.texts.items)

-- the plan of the database that is asked goes on with what is told of this path
abbrev pub IsAskedAt : Reads → (root path : List ℕ) → Type 0
IsAskedAt w root path = (next : Next) (bytes : List ℕ) (e : End) → w.database path ≡ Ok (Some bytes) → Ends w (next path bytes) e → Ends w (asked root next) e

-- why standard input isn't read, by the error of the call and its cause
abbrev pub input_stop : ReadError → Option Cause → Stop
input_stop reading.Failed cause = unread_stop (codes "standard input") (Failed cause)
input_stop reading.TooLong cause = Over TooLong (codes "standard input") None
input_stop reading.Memory cause = Plain Memory

-- the error of a baseline: its first line that has no finding, or want of memory
abbrev pub IsOfBaseline : (path : List ℕ) → BaselineFault → Refusal → Type 0
IsOfBaseline path (baseline.Line number) r = IsInWords (wrong_text path number) r
IsOfBaseline path baseline.Memory r = r ≡ refusal.Plain Memory
