-- The text files that a command reads, as the front of a plan. `-` is standard input, which is read before them and once: that is from
-- POSIX, Utility Syntax Guidelines, 13. The rest is our choice.
use Rattle.std.specs.List.{list_any}
use Rattle.std.specs.Prelude.{◌++◌, ◌≡◌, ◌⊎◌, ◌∷◌, ℕ, Option, Bool, true, false, List, [], Result, codes, if◌then◌else◌, map, MatchResult, IsOkAnd}
use Rattle.std.specs.Str.{bytes_eq}
use Rattle.hwdb_spec.specs.Folders.{Source}
use Rattle.hwdb_spec_commands.specs.Given.{any_dash, is_dash}
use Rattle.hwdb_spec_commands.specs.Told.{IsReadTo, Reads, stop_of}
use Rattle.hwdb_spec.specs.declared.errors.ToolError.TheVariants as error
use Rattle.hwdb_spec_commands.specs.declared.refusals.Refusal.{Refusal}
use Rattle.hwdb_spec_commands.specs.declared.refusals.Refusal.TheVariants as refusal
use Rattle.hwdb_spec_commands.specs.declared.unread.Unread.{Unread}
use Rattle.hwdb_plan.specs.Asking.{if_read}
use Rattle.hwdb_plan.specs.Input.{IsInputTold}
use Rattle.hwdb_plan.specs.Plans.{End, Ends, Plan}
use Rattle.hwdb_plan.specs.Plans.End.{Stops}
use Rattle.hwdb_plan.specs.Plans.Plan.{Input, Text}

-- a path is one of the words
abbrev pub is_word : (words : List (List ℕ)) (path : List ℕ) → Bool
is_word words path = list_any (λ word. bytes_eq word path) words

-- a file that words name is read, whatever it is; another one, which a folder lists, if it is a regular file
abbrev pub ask_file : (named : Bool) (path : List ℕ) → (Result (List ℕ) Unread → Plan) → Plan
ask_file true path next = Input path next
ask_file false path next = Text path next

-- what is told of such a file
abbrev pub file_told : Reads → (named : Bool) (path : List ℕ) → Result (List ℕ) Unread
file_told w true path = w.input path
file_told w false path = w.text path

-- a file with its bytes
abbrev pub source_at : (path bytes : List ℕ) → Source
source_at path bytes = record { name = path; bytes = bytes }

-- the files at these paths are read in their order, after those that were read, up to the first that can't be; `-` has this text
unfoldable pub read_files : (words : List (List ℕ)) (text : List ℕ) (paths : List (List ℕ)) (read : List Source) → (List Source → Plan) → Plan
read_files words text [] read next = next read
read_files words text (path ∷ more) read next =
    if is_dash path then read_files words text more (read ++ source_at path text ∷ []) next
    else ask_file (is_word words path) path (if_read path (λ at bytes. read_files words text more (read ++ source_at at bytes ∷ []) next))

-- what follows the text of standard input, as that is told, if some word names it
abbrev pub if_input : (dash : Bool) (told : Result (List ℕ) Unread) → ((text : List ℕ) → Plan) → Plan
if_input true told next = if_read (codes "standard input") (λ at text. next text) told
if_input false told next = next []

-- the files at these paths, after standard input if one of them is that
abbrev pub given_files : (words : List (List ℕ)) (told : Result (List ℕ) Unread) (paths : List (List ℕ)) → (List Source → Plan) → Plan
given_files words told paths next = if_input (any_dash paths) told (λ text. read_files words text paths [] next)

-- so of what is told of standard input
abbrev pub OfInput : (input : Option (List ℕ)) (failures_before failures_now : ℕ) → (Is : (told : Result (List ℕ) Unread) → Type 0) → Type 0
OfInput input before now Is = (told : Result (List ℕ) Unread) × IsInputTold input before now told × Is told

-- the text of standard input is what was told, or no text if no word names it
abbrev pub IsInputText : {Y : Type 0} (value : Y → List ℕ) (dash : Bool) (told : Result (List ℕ) Unread) → Result Y Refusal → Type 0
IsInputText value true told result = IsReadTo value told (codes "standard input") result
IsInputText value false told result = IsOkAnd result (λ y. value y ≡ [])

-- some files have these names and texts
pub record AreFiles (names texts : List (List ℕ)) (sources : List Source) : Type 0 where
  pub named : map (λ (s : Source). s.name) sources ≡ names
  pub held : map (λ (s : Source). s.bytes) sources ≡ texts

-- The result is the texts of files with these names, from which the plan goes on. Or it is what the plan ends in, whatever was to follow;
-- or there was no memory.
abbrev pub ReachesFiles : {Y : Type 0} (texts : Y → List (List ℕ)) (names : List (List ℕ)) → Reads → ((List Source → Plan) → Plan) → Result Y Refusal → Type 0
ReachesFiles texts names w p result =
    MatchResult result (λ y. (sources : List Source) → AreFiles names (texts y) sources → (next : List Source → Plan) (e : End) → Ends w (next sources) e → Ends w (p next) e)
    (λ r. (r ≡ refusal.Plain error.Memory) ⊎ ((next : List Source → Plan) → Ends w (p next) (Stops (stop_of r))))
