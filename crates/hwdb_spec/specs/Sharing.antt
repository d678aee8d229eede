-- Several updates at once: what others may do between two calls of one of them, and what that may leave. Our choice: others
-- keep to what an update does, and leave a new file alone while it is another's (flock(2) has it so).
use Rattle.std.specs.Prelude.{◌≡◌, ◌≢◌, ◌⊎◌, ℕ, false, List, Option, Some}
use Rattle.hwdb_spec.specs.Crashes.{Event, put, synced, moved, removed, names_synced}
use Rattle.hwdb_spec.specs.Store.{Stored, Outcomes, IsPartPath, path_in, database_name, database_file}

-- a path that a new file of some folder may have
abbrev pub IsAnyPart : List ℕ → Type 0
IsAnyPart p = (folder : List ℕ) × IsPartPath folder p

-- Others may do this while a path is ours. They take or remove names of new files, and put a file that is on the disk
-- in the database's place. Which files these are, `whole` says.
abbrev pub MayDo : (whole : Stored → Type 0) (ours : List ℕ) → Event → Type 0
MayDo whole ours (put path file) = IsAnyPart path × (path ≢ ours)
MayDo whole ours (synced path) = Unit {0}
MayDo whole ours (removed path) = IsAnyPart path × (path ≢ ours)
MayDo whole ours (moved from to file loose) =
    IsAnyPart from × (from ≢ ours) × (to ≢ ours) × (loose ≡ false) × whole file × ((folder : List ℕ) × (to ≡ path_in folder database_name))
MayDo whole ours names_synced = Unit {0}

-- others may have put this under the path: anything under that of a new file; in a database's place one of their files, whole
abbrev pub AreTheirs : (whole : Stored → Type 0) → Outcomes
AreTheirs whole p v =
    IsAnyPart p ⊎ ((folder : List ℕ) × (file : Stored) × (p ≡ path_in folder database_name) × whole file × (v ≡ Some file))

-- Under each path what a crash might have left before. In the database's place perhaps the new one, whole, and under the paths
-- of new files anything.
abbrev pub OldOrOurs : (folder bytes : List ℕ) (outcomes : Outcomes) → Outcomes
OldOrOurs folder bytes outcomes p v =
    outcomes p v ⊎ (((p ≡ path_in folder database_name) × (v ≡ Some (database_file bytes))) ⊎ IsPartPath folder p)

-- in the database's place is ours, or one of theirs
abbrev pub OursOrTheirs : (whole : Stored → Type 0) (ours : Stored) → Option Stored → Type 0
OursOrTheirs whole ours v = (v ≡ Some ours) ⊎ ((file : Stored) × whole file × (v ≡ Some file))

-- in the database's place is what might have been there before, ours, or one of theirs
abbrev pub OldOursOrTheirs : (whole : Stored → Type 0) (ours : Stored) (old : Option Stored → Type 0) → Option Stored → Type 0
OldOursOrTheirs whole ours old v = old v ⊎ OursOrTheirs whole ours v
