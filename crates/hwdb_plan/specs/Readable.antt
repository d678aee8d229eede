-- The text files of both folders as `update` reads them, as the front of a plan. With `--skip-unreadable` chosen ones that can't be read
-- are left out, and what these mask too: those that are left are chosen anew. Which folders these are is systemd-hwdb(8)'s, the rest is
-- our choice.
use Rattle.std.specs.Prelude.{◌++◌, ◌∷◌, ◌≡◌, ◌⊎◌, Bool, true, false, ℕ, List, [], None, Option, Some, Result, Ok, Err, MatchResult, drop, filter, map, not}
use Rattle.hwdb_spec.specs.Folders.{Choice, Source, first_of, lists, path_of}
use Rattle.hwdb_spec.specs.System.{etc_files, usr_files}
use Rattle.hwdb_spec.specs.declared.causes.Cause.{Cause}
use Rattle.hwdb_spec.specs.declared.causes.Cause.TheVariants as why
use Rattle.hwdb_spec.specs.declared.errors.ToolError.TheVariants.{Memory, Read}
use Rattle.hwdb_spec_commands.specs.LeftOutTold.{left_out_line}
use Rattle.hwdb_spec_commands.specs.Told.{Reads, stop_of, unread_stop}
use Rattle.hwdb_spec_commands.specs.declared.refusals.Refusal.{Refusal}
use Rattle.hwdb_spec_commands.specs.declared.refusals.Refusal.TheVariants.{At, Plain}
use Rattle.hwdb_spec_commands.specs.declared.unread.Unread.{Unread}
use Rattle.hwdb_spec_commands.specs.declared.unread.Unread.TheVariants as unread
use Rattle.hwdb_plan.specs.Files.{source_at}
use Rattle.hwdb_plan.specs.Folders.{Texts, choose, names_of, texts_of_names}
use Rattle.hwdb_plan.specs.Plans.{End, Ends, Plan}
use Rattle.hwdb_plan.specs.Plans.End.{Stops}
use Rattle.hwdb_plan.specs.Plans.Plan.{Done, Text}

-- ---- steps
-- the plan goes on with this value, whatever is to follow
abbrev pub GoesOn : {X : Type 0} → Reads → ((X → Plan) → Plan) → X → Type 0
GoesOn {X} w p x = (next : X → Plan) (e : End) → Ends w (next x) e → Ends w (p next) e

-- it ends with the error, whatever was to follow; or there was no memory
abbrev pub EndsEarly : {X : Type 0} → Reads → ((X → Plan) → Plan) → Refusal → Type 0
EndsEarly {X} w p r = (r ≡ Plain Memory) ⊎ ((next : X → Plan) → Ends w (p next) (Stops (stop_of r)))

-- The result is of a value, from which the plan goes on. Or it is what the plan ends in, whatever was to follow; or there was no memory.
abbrev pub ReachesOf : {X Y : Type 0} (Is : Y → X → Type 0) → Reads → ((X → Plan) → Plan) → Result Y Refusal → Type 0
ReachesOf {X} Is w p result = MatchResult result (λ y. (x : X) × Is y x × GoesOn w p x) (EndsEarly w p)

-- ---- files that are left out
-- chosen files that are left out, and the lines that say so
pub record LeftOut : Type 0 where
  pub files : List Choice
  pub said : List ℕ

-- no file is left out
abbrev pub none_left_out : LeftOut
none_left_out = record { files = []; said = [] }

-- one more is, if its cause has these words
abbrev pub one_left_out : (root : List ℕ) (c : Choice) (cause : Option Cause) (words : List ℕ) → LeftOut → LeftOut
one_left_out root c cause words left = record {
  files = left.files ++ c ∷ [];
  said = left.said ++ left_out_line (root ++ path_of c) cause words;
}

-- an error is of reading a path
abbrev pub is_read_error : Refusal → Bool
is_read_error (At Read path cause) = true
is_read_error r = false

-- what follows a text file that can be read, or one that can't; one that is too long ends the plan, and so does want of memory
abbrev pub if_looked : (path : List ℕ) (read : Plan) (left : Option Cause → Plan) → Result (List ℕ) Unread → Plan
if_looked path read left (Ok bytes) = read
if_looked path read left (Err (unread.Failed None)) = left None
if_looked path read left (Err (unread.Failed (Some why.Memory))) = Done (Stops (unread_stop path unread.Memory))
if_looked path read left (Err (unread.Failed (Some cause))) = left (Some cause)
if_looked path read left (Err w) = Done (Stops (unread_stop path w))

-- the first of some texts
abbrev pub first_text : List (List ℕ) → List ℕ
first_text [] = []
first_text (text ∷ more) = text

-- Chosen files are read in their order, after some that are left out: those that can't be read are left out, too. These are the words of
-- their causes.
unfoldable pub look : (root : List ℕ) → List Choice → (words : List (List ℕ)) → LeftOut → (LeftOut → Plan) → Plan
look root [] words left next = next left
look root (c ∷ more) words left next =
    Text (root ++ path_of c) (if_looked (root ++ path_of c) (look root more words left next)
    (λ cause. look root more (drop 1 words) (one_left_out root c cause (first_text words) left) next))

-- the names of other files
abbrev pub others : List Choice → (names : List (List ℕ)) → List (List ℕ)
others files names = filter (λ name. not (lists name (map (λ (c : Choice). c.name) files))) names

-- ---- those that are read
-- chosen files with their texts
unfoldable pub read_of : List Choice → (texts : List (List ℕ)) → List Source
read_of [] texts = []
read_of (c ∷ more) [] = []
read_of (c ∷ more) (text ∷ texts) = source_at c.name text ∷ read_of more texts

-- files with these names, with what was read of them; one that is masked wasn't read
abbrev pub files_of : (names : List (List ℕ)) → Texts → List Source
files_of names t = map (λ (name : List ℕ). source_at name (first_of name (read_of t.chosen t.texts) [])) names

-- the text files of both folders, and those that are left out
pub record Readable : Type 0 where
  pub etc : List Source
  pub usr : List Source
  pub left : LeftOut

-- those of these names
abbrev pub readable : (etc usr : List (List ℕ)) → LeftOut → Texts → Readable
readable etc usr left t = record { etc = files_of etc t; usr = files_of usr t; left = left }

-- the files with these names are read
abbrev pub read_names : (root : List ℕ) (etc usr : List (List ℕ)) → LeftOut → (Readable → Plan) → Plan
read_names root etc usr left next = texts_of_names root etc usr (λ t. next (readable etc usr left t))

-- the same, but for those that can't be read
abbrev pub read_others : (root : List ℕ) (words etc usr : List (List ℕ)) → (Readable → Plan) → Plan
read_others root words etc usr next = choose etc usr (λ chosen. look root chosen words none_left_out
    (λ left. read_names root (others left.files etc) (others left.files usr) left next))

-- with the option, or without it
abbrev pub read_if : (skip : Bool) (root : List ℕ) (words etc usr : List (List ℕ)) → (Readable → Plan) → Plan
read_if true root words etc usr next = read_others root words etc usr next
read_if false root words etc usr next = read_names root etc usr none_left_out next

-- those of both folders: /etc's is listed first
abbrev pub readable_texts : (skip : Bool) (root : List ℕ) (words : List (List ℕ)) → (Readable → Plan) → Plan
readable_texts skip root words next = names_of (etc_files root) (λ etc. names_of (usr_files root) (λ usr. read_if skip root words etc usr next))
