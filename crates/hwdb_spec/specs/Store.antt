-- A store of files: what a read of each path gives, and what a crash may leave under it. The file system's calls are
-- POSIX's; the names and modes are systemd-hwdb's. A path is a folder, a slash (byte 47) and a name.
use Rattle.std.specs.Prelude.{◌≡◌, ◌≢◌, ◌⊎◌, ◌<◌, ◌≤◌, ℕ, Bool, true, false, List, [], ◌++◌, ◌∷◌, Option, Some, None, codes}
use Rattle.std.specs.Fmt.{decimal}

-- a file: its bytes, and its mode, which says who may read and write it
pub record Stored : Type 0 where
  pub bytes : List ℕ
  pub mode : ℕ

-- what is under each path
abbrev pub Contents : Type 0
Contents = List ℕ → Option Stored

-- what a crash may leave under each path
abbrev pub Outcomes : Type 1
Outcomes = List ℕ → Option Stored → Type 0

-- a folder, a slash and a name
abbrev pub path_in : (folder name : List ℕ) → List ℕ
path_in folder name = folder ++ 47 ∷ name

-- the database's name in its folder, `hwdb.bin` (systemd-hwdb's)
abbrev pub database_name : List ℕ
database_name = codes "hwdb.bin"

-- the name of a new file: `.#hwdb.bin` and a number (systemd-hwdb's)
abbrev pub part_name : ℕ → List ℕ
part_name number = codes ".#hwdb.bin" ++ decimal number

-- how many of these names are tried
abbrev pub most_parts : ℕ
most_parts = 65536

-- the mode of a new file while it is written, in octal digits 600 (systemd-hwdb's)
abbrev pub part_mode : ℕ
part_mode = 384

-- the mode of the database, in octal digits 444 (systemd-hwdb's)
abbrev pub database_mode : ℕ
database_mode = 292

-- the file that is to be the database
abbrev pub database_file : List ℕ → Stored
database_file bytes = record { bytes = bytes; mode = database_mode }

-- every path has what it had
abbrev pub Same : Contents → Contents → Type 0
Same old new = (p : List ℕ) → new p ≡ old p

-- every path but one has what it had
abbrev pub SameBut : List ℕ → Contents → Contents → Type 0
SameBut path old new = (p : List ℕ) → p ≢ path → new p ≡ old p

-- the path has this file, and every other path what it had
pub record Replaced (path : List ℕ) (file : Stored) (old new : Contents) : Type 0 where
  pub there : new path ≡ Some file
  pub others : SameBut path old new

-- a new file was made under the path, empty; or something has the name already, and nothing changed (POSIX)
abbrev pub Created : Bool → (path part : List ℕ) → Contents → Contents → Type 0
Created true path part old new = (old path ≡ None) × (part ≡ path) × Replaced path record { bytes = []; mode = part_mode } old new
Created false path part old new = (old path ≢ None) × Same old new

-- a write put the bytes after those of the file under the path (POSIX)
abbrev pub Written : (path bytes : List ℕ) → Contents → Contents → Type 0
Written path bytes old new = (f : Stored) → old path ≡ Some f → new path ≡ Some (record { bytes = f.bytes ++ bytes; mode = f.mode })

-- the file under the path has another mode (POSIX)
abbrev pub ModeSet : (path : List ℕ) (mode : ℕ) → Contents → Contents → Type 0
ModeSet path mode old new = (f : Stored) → old path ≡ Some f → new path ≡ Some (record { bytes = f.bytes; mode = mode })

-- the path is one of those that a new file may have
pub record IsPartPath (folder p : List ℕ) : Type 0 where
  pub number : ℕ
  pub tried : number < most_parts
  pub is : p ≡ path_in folder (part_name number)

-- the path has what it had; or it is a new file's, and what a killed update left there is gone
abbrev pub IsKept : (folder : List ℕ) (old new : Contents) → List ℕ → Type 0
IsKept folder old new p = (new p ≡ old p) ⊎ (IsPartPath folder p × (new p ≡ None))

-- all that changed is that leftovers of killed updates are gone (our choice)
abbrev pub Cleared : (folder : List ℕ) → Contents → Contents → Type 0
Cleared folder old new = (p : List ℕ) → IsKept folder old new p

-- under each path what a crash might have left before; and under a new file's, nothing
abbrev pub OldOrCleared : (folder : List ℕ) (outcomes : Outcomes) → Outcomes
OldOrCleared folder outcomes p v = outcomes p v ⊎ (IsPartPath folder p × (v ≡ None))

-- the file under the path is gone (POSIX)
pub record Removed (path : List ℕ) (old new : Contents) : Type 0 where
  pub gone : new path ≡ None
  pub others : SameBut path old new

-- the one path has what the other one had, and the other one nothing (POSIX)
pub record Renamed (from to : List ℕ) (old new : Contents) : Type 0 where
  pub there : new to ≡ old from
  pub gone : from ≢ to → new from ≡ None
  pub others : (p : List ℕ) → p ≢ from → p ≢ to → new p ≡ old p

-- a crash leaves nothing that it might not have left before
abbrev pub NoMore : Outcomes → Outcomes → Type 0
NoMore old new = (p : List ℕ) (v : Option Stored) → new p v → old p v

-- a crash leaves nothing that it might not have left before, except under one path
abbrev pub NoMoreBut : List ℕ → Outcomes → Outcomes → Type 0
NoMoreBut path old new = (p : List ℕ) (v : Option Stored) → p ≢ path → new p v → old p v

-- A crash leaves nothing that it might not have left before, except at the path of a file that was made. If none was made,
-- it leaves nothing new at all.
abbrev pub NoMoreCreated : Bool → (path : List ℕ) → Outcomes → Outcomes → Type 0
NoMoreCreated true path old new = NoMoreBut path old new
NoMoreCreated false path old new = NoMore old new

-- A crash leaves nothing that it might not have left before, except at the two paths of a rename. If the file was whole on the
-- disk, then under the second path nothing is new but that file.
pub record NoMoreRenamed (from to : List ℕ) (file : Option Stored) (is_whole : Type 0) (old new : Outcomes) : Type 0 where
  pub there : is_whole → (v : Option Stored) → new to v → old to v ⊎ (v ≡ file)
  pub others : (p : List ℕ) (v : Option Stored) → p ≢ from → p ≢ to → new p v → old p v

-- whatever a crash leaves under the path, it is this
abbrev pub Always : List ℕ → Option Stored → Outcomes → Type 0
Always path file outcomes = (v : Option Stored) → outcomes path v → v ≡ file

-- Time goes on: a crash since t might have left what it might have left before, or one of these. What it might have left
-- before, it still might.
pub record Elapses (before now : ℕ) (past since : ℕ → Outcomes) (more : Outcomes) : Type 0 where
  pub later : before ≤ now
  pub nothing_else : (t : ℕ) (p : List ℕ) (v : Option Stored) → t ≤ before → since t p v → past t p v ⊎ more p v
  pub nothing_less : (t : ℕ) (p : List ℕ) (v : Option Stored) → t ≤ before → past t p v → since t p v

-- A crash at any moment since old leaves what these outcomes allow.
pub record LeavesOnly {D : Type 0} (moment : D → ℕ) (left_since : D → ℕ → Outcomes) (old new : D) (outcomes : Outcomes) : Type 0 where
  pub each : (p : List ℕ) (v : Option Stored) → left_since new (moment old) p v → outcomes p v
  -- for a run that began earlier
  pub time : Elapses (moment old) (moment new) (left_since old) (left_since new) outcomes

-- the names of new files below this number are taken
abbrev pub AreTaken : (folder : List ℕ) (number : ℕ) → Contents → Type 0
AreTaken folder number old = (k : ℕ) → k < number → old (path_in folder (part_name k)) ≢ None

-- the path of a new file that was made: each name with a lower number was taken
pub record IsPart (folder : List ℕ) (old : Contents) (p : List ℕ) : Type 0 where
  pub number : ℕ
  pub tried : number < most_parts
  pub is : p ≡ path_in folder (part_name number)
  pub lower : AreTaken folder number old

-- under the path of a new file that was made, anything; under those of others, nothing: leftovers of killed updates may go
abbrev pub LeftAtParts : (folder : List ℕ) (old : Contents) → Outcomes
LeftAtParts folder old p v = IsPart folder old p ⊎ (IsPartPath folder p × (v ≡ None))

-- under each path but those of new files, a crash leaves what it might have left before
abbrev pub OldOrPart : (folder : List ℕ) (old : Contents) (outcomes : Outcomes) → Outcomes
OldOrPart folder old outcomes p v = outcomes p v ⊎ LeftAtParts folder old p v

-- the same, and in the database's place perhaps the new one, whole
abbrev pub OldOrNew : (folder bytes : List ℕ) (old : Contents) (outcomes : Outcomes) → Outcomes
OldOrNew folder bytes old outcomes p v =
    outcomes p v ⊎ (((p ≡ path_in folder database_name) × (v ≡ Some (database_file bytes))) ⊎ LeftAtParts folder old p v)

-- these bytes are the database, and every other path is as it was, but for leftovers of killed updates that are gone
pub record Installed (folder bytes : List ℕ) (old new : Contents) : Type 0 where
  pub there : new (path_in folder database_name) ≡ Some (database_file bytes)
  pub others : (p : List ℕ) → p ≢ path_in folder database_name → IsKept folder old new p

-- the database is replaced by these bytes, on the disk too
pub record InPlace (folder bytes : List ℕ) (old new : Contents) (outcomes : Outcomes) : Type 0 where
  pub seen : Installed folder bytes old new
  pub durable : Always (path_in folder database_name) (Some (database_file bytes)) outcomes
