-- A plan: the next question to the file system with what follows each answer to it, or the end. A run does what its plan ends in. Our
-- choice.
use Rattle.std.specs.Prelude.{◌≡◌, ◌≤◌, ◌⊎◌, ℕ, Bool, List, None, Option, Some, Result, Ok, MatchResult, if◌then◌else◌, length}
use Rattle.hwdb_spec.specs.Assignment.{Position}
use Rattle.hwdb_spec.specs.CompileErrors.{IsRefusal}
use Rattle.hwdb_spec_commands.specs.Databases.{IsNoDatabase}
use Rattle.hwdb_spec.specs.Folders.{AreAccepted, Source}
use Rattle.hwdb_spec.specs.Format.{IsDatabase}
use Rattle.hwdb_spec.specs.Texts.{IsSpelling}
use Rattle.hwdb_spec.specs.Tree.{Tree, map_of_files}
use Rattle.hwdb_spec.specs.Written.{IsCompiled, IsWritten}
use Rattle.hwdb_spec.specs.declared.DbFault.{DbFault}
use Rattle.hwdb_spec.specs.declared.errors.CompileError.{CompileError}
use Rattle.hwdb_spec.specs.declared.errors.CompileError.TheVariants as compiling
use Rattle.hwdb_spec.specs.declared.errors.ToolError.TheVariants as error
use Rattle.hwdb_spec_commands.specs.declared.refusals.Refusal.{Refusal}
use Rattle.hwdb_spec_commands.specs.declared.refusals.Refusal.TheVariants as refusal
use Rattle.hwdb_spec_commands.specs.declared.unread.Unread.{Unread}
use Rattle.hwdb_spec_commands.specs.Told.{Reads, Stop, Unlisted, stop_of}

-- what a plan ends in: an error; a status, with a text for standard error and one for standard output; lines for standard output, each
-- as it is found; a text for the lines of standard input, as they come; the keys that events tell, of a device at a path or of standard
-- input, as many as are asked for; or the database in a folder, its bytes after a text for standard error, with a status
pub data End : Type 0 where
  Stops : Stop → End
  Answers : (status : ℕ) (err out : List ℕ) → End
  Lines : (lines : List (List ℕ)) → End
  Streams : (text : List (List ℕ) → List ℕ) → End
  Scans : (path : Option (List ℕ)) (count : Option ℕ) → End
  Replaces : (folder bytes said : List ℕ) (status : ℕ) → End

-- the next question, and what follows each answer: of what is read or listed at a path, and of what a text, bytes or text files are
pub data Plan : Type 0 where
  Done : End → Plan
  Input : (path : List ℕ) → (Result (List ℕ) Unread → Plan) → Plan
  Text : (path : List ℕ) → (Result (List ℕ) Unread → Plan) → Plan
  Database : (path : List ℕ) → (Result (Option (List ℕ)) Unread → Plan) → Plan
  -- the names of a folder's text files; those of what is at a path, if it is a folder; and those of a folder's ignored files
  Names : (folder : List ℕ) → (Result (List (List ℕ)) Unlisted → Plan) → Plan
  Folder : (path : List ℕ) → (Result (Option (List (List ℕ))) Unlisted → Plan) → Plan
  Ignored : (folder : List ℕ) → (Result (List (List ℕ)) Unread → Plan) → Plan
  -- a text spells a position, or none
  Spell : (text : List ℕ) → (Option Position → Plan) → Plan
  -- bytes are the database of a tree, or none
  Inspect : (bytes : List ℕ) → (Option Tree → Plan) → Plan
  -- bytes are the database of a tree, or have some fault: which of several is told is left open
  Decode : (bytes : List ℕ) → (bad : DbFault → Stop) → (Tree → Plan) → Plan
  -- text files make a database, or are too much for one: which of several reasons is told is left open
  Compile : (etc usr : List Source) (most : ℕ) → (bad : CompileError → Stop) → (List ℕ → Plan) → Plan

-- what follows the bytes at a path
abbrev pub Next : Type 0
Next = (path bytes : List ℕ) → Plan

-- the bytes are the database of the files, which has their map, and no more than so many
pub record AreMadeOf (etc usr : List Source) (most : ℕ) (bytes : List ℕ) : Type 0 where
  pub accepted : AreAccepted etc usr
  pub written : IsWritten (map_of_files etc usr) bytes
  pub sound : IsCompiled etc usr bytes
  pub within : length bytes ≤ most

-- the files are too much for one, for this reason; want of memory is none
abbrev pub AreTooMuch : (etc usr : List Source) (most : ℕ) → CompileError → Type 0
AreTooMuch etc usr most compiling.Memory = ⊥
AreTooMuch etc usr most e = IsRefusal etc usr most e

-- the text spells no position
abbrev pub SpellsNone : (text : List ℕ) → Type 0
SpellsNone text = (p : Position) → IsSpelling p text → ⊥

-- the bytes are the database of no tree
abbrev pub IsOfNone : (bytes : List ℕ) → Type 0
IsOfNone bytes = (t : Tree) → IsDatabase bytes t → ⊥

-- the plan ends so if this is told
unfoldable pub Ends : Reads → Plan → End → Type 0
Ends w (Done e) end = end ≡ e
Ends w (Input path next) end = Ends w (next (w.input path)) end
Ends w (Text path next) end = Ends w (next (w.text path)) end
Ends w (Database path next) end = Ends w (next (w.database path)) end
Ends w (Names folder next) end = Ends w (next (w.names folder)) end
Ends w (Folder path next) end = Ends w (next (w.folder path)) end
Ends w (Ignored folder next) end = Ends w (next (w.ignored folder)) end
Ends w (Spell text next) end = ((p : Position) × IsSpelling p text × Ends w (next (Some p)) end) ⊎ (SpellsNone text × Ends w (next None) end)
Ends w (Inspect bytes next) end = ((t : Tree) × IsDatabase bytes t × Ends w (next (Some t)) end) ⊎ (IsOfNone bytes × Ends w (next None) end)
Ends w (Decode bytes bad next) end = ((t : Tree) × IsDatabase bytes t × Ends w (next t) end) ⊎ ((f : DbFault) × IsNoDatabase bytes f × (end ≡ Stops (bad f)))
Ends w (Compile etc usr most bad next) end =
    ((bytes : List ℕ) × AreMadeOf etc usr most bytes × Ends w (next bytes) end) ⊎ ((e : CompileError) × AreTooMuch etc usr most e × (end ≡ Stops (bad e)))

-- the result is what the plan ends in, or there was no memory
abbrev pub Follows : {Y : Type 0} (end_of : Y → End) → Reads → Plan → Result Y Refusal → Type 0
Follows end_of w p result =
    MatchResult result (λ y. Ends w p (end_of y)) (λ r. (r ≡ refusal.Plain error.Memory) ⊎ Ends w p (Stops (stop_of r)))

-- the result is a path with its bytes, from which the plan goes on; or what the plan ends in, whatever was to follow; or there was no memory
abbrev pub Reaches : {Y : Type 0} (path bytes : Y → List ℕ) → Reads → (Next → Plan) → Result Y Refusal → Type 0
Reaches path bytes w p result =
    MatchResult result (λ y. (next : Next) (e : End) → Ends w (next (path y) (bytes y)) e → Ends w (p next) e)
    (λ r. (r ≡ refusal.Plain error.Memory) ⊎ ((next : Next) → Ends w (p next) (Stops (stop_of r))))

-- The result has a value, from which the plan goes on. Or it is what the plan ends in, whatever was to follow; or there was no memory.
abbrev pub ReachesValue : {X Y : Type 0} (value : Y → X) → Reads → ((X → Plan) → Plan) → Result Y Refusal → Type 0
ReachesValue {X} value w p result =
    MatchResult result (λ y. (next : X → Plan) (e : End) → Ends w (next (value y)) e → Ends w (p next) e)
    (λ r. (r ≡ refusal.Plain error.Memory) ⊎ ((next : X → Plan) → Ends w (p next) (Stops (stop_of r))))

-- ---- other bytes in a place (`--text`)
-- the plan over a file system whose files at some paths have these bytes: of these it asks nothing, and none of them is a folder
unfoldable pub over : (is : List ℕ → Bool) (made : List ℕ) → Plan → Plan
over is made (Done e) = Done e
over is made (Input path next) = if is path then over is made (next (Ok made)) else Input path (λ r. over is made (next r))
over is made (Text path next) = if is path then over is made (next (Ok made)) else Text path (λ r. over is made (next r))
over is made (Database path next) = if is path then over is made (next (Ok (Some made))) else Database path (λ r. over is made (next r))
over is made (Names folder next) = Names folder (λ r. over is made (next r))
over is made (Folder path next) = if is path then over is made (next (Ok None)) else Folder path (λ r. over is made (next r))
over is made (Ignored folder next) = Ignored folder (λ r. over is made (next r))
over is made (Spell text next) = Spell text (λ p. over is made (next p))
over is made (Inspect bytes next) = Inspect bytes (λ t. over is made (next t))
over is made (Decode bytes bad next) = Decode bytes bad (λ t. over is made (next t))
over is made (Compile etc usr most bad next) = Compile etc usr most bad (λ bytes. over is made (next bytes))

-- what such a file system tells
abbrev pub reads_over : (is : List ℕ → Bool) (made : List ℕ) → Reads → Reads
reads_over is made w = record {
  input = λ path. if is path then Ok made else w.input path;
  text = λ path. if is path then Ok made else w.text path;
  database = λ path. if is path then Ok (Some made) else w.database path;
  names = w.names;
  folder = λ path. if is path then Ok None else w.folder path;
  ignored = w.ignored;
}

-- ---- questions
-- the plan may ask what is at this path, or what is in it, whatever it is told of others
unfoldable pub Asks : Plan → (path : List ℕ) → Type 0
Asks (Done e) path = ⊥
Asks (Input at next) path = (path ≡ at) ⊎ ((r : Result (List ℕ) Unread) × Asks (next r) path)
Asks (Text at next) path = (path ≡ at) ⊎ ((r : Result (List ℕ) Unread) × Asks (next r) path)
Asks (Database at next) path = (path ≡ at) ⊎ ((r : Result (Option (List ℕ)) Unread) × Asks (next r) path)
Asks (Names folder next) path = (path ≡ folder) ⊎ ((r : Result (List (List ℕ)) Unlisted) × Asks (next r) path)
Asks (Folder at next) path = (path ≡ at) ⊎ ((r : Result (Option (List (List ℕ))) Unlisted) × Asks (next r) path)
Asks (Ignored folder next) path = (path ≡ folder) ⊎ ((r : Result (List (List ℕ)) Unread) × Asks (next r) path)
Asks (Spell text next) path = (p : Option Position) × Asks (next p) path
Asks (Inspect bytes next) path = (t : Option Tree) × Asks (next t) path
Asks (Decode bytes bad next) path = (t : Tree) × Asks (next t) path
Asks (Compile etc usr most bad next) path = (bytes : List ℕ) × Asks (next bytes) path
