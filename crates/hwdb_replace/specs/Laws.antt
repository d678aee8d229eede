-- That the model of a crash tears, and that of others spares. A store in memory that did neither would meet all promises, and try
-- nothing.
use Rattle.std.specs.Prelude.{◌≡◌, ◌≢◌, ◌⊎◌, ℕ, Bool, false, List, [], ◌∷◌, Option, Some, None}
use Rattle.hwdb_spec.specs.Crashes.{put, synced, moved, removed, names_synced, outcomes_after}
use Rattle.hwdb_spec.specs.Sharing.{AreTheirs, MayDo, OldOrOurs, OldOursOrTheirs}
use Rattle.hwdb_spec.specs.Store.{Stored, database_file, database_name, part_mode, path_in}

-- a new file with these bytes
abbrev pub part_file : List ℕ → Stored
part_file bytes = record { bytes = bytes; mode = part_mode }

-- what a crash may leave of a new file that got some bytes, and wasn't synced
abbrev pub left_unsynced : (path bytes : List ℕ) → Option Stored → Type 0
left_unsynced path bytes = outcomes_after (put path (part_file []) ∷ (put path (part_file bytes) ∷ [])) path

-- of two bytes that weren't synced a crash may leave the first alone, or none, or no file at all
pub record UnsyncedFilesTear : Type 0 where
  pub first : (path : List ℕ) (a b : ℕ) → left_unsynced path (a ∷ (b ∷ [])) (Some (part_file (a ∷ [])))
  pub neither : (path : List ℕ) (a b : ℕ) → left_unsynced path (a ∷ (b ∷ [])) (Some (part_file []))
  pub missing : (path : List ℕ) (a b : ℕ) → left_unsynced path (a ∷ (b ∷ [])) None

-- what a crash may leave if a file that was synced has taken another one's name, and the names weren't synced
abbrev pub left_renamed : (from to : List ℕ) (old new : Stored) → Option Stored → Type 0
left_renamed from to old new =
    outcomes_after (put to old ∷ (synced to ∷ (names_synced ∷ (put from new ∷ (synced from ∷ (moved from to new false ∷ [])))))) to

-- a rename that wasn't synced a crash may undo, or not
pub record RenamesComeUndone : Type 0 where
  pub undone : (from to : List ℕ) (old new : Stored) → from ≢ to → left_renamed from to old new (Some old)
  pub done : (from to : List ℕ) (old new : Stored) → from ≢ to → left_renamed from to old new (Some new)

-- what is left beside others is one of three files, whole
abbrev pub BesideIsOneOfThree : Type 0
BesideIsOneOfThree = (old ours theirs : Stored) (v : Option Stored)
    → OldOursOrTheirs (λ file. file ≡ theirs) ours (λ w. w ≡ Some old) v → (v ≡ Some old) ⊎ ((v ≡ Some ours) ⊎ (v ≡ Some theirs))

-- in the database's place nothing is new but the database
abbrev pub NothingElseIsPut : Type 0
NothingElseIsPut = (folder bytes : List ℕ) (old : Stored) (v : Option Stored)
    → OldOrOurs folder bytes (λ p w. w ≡ Some old) (path_in folder database_name) v → (v ≡ Some old) ⊎ (v ≡ Some (database_file bytes))

-- and others may have put nothing there but what they have whole
abbrev pub TheirsAreWhole : Type 0
TheirsAreWhole = (folder : List ℕ) (theirs : Stored) (v : Option Stored) → AreTheirs (λ file. file ≡ theirs) (path_in folder database_name) v → v ≡ Some theirs

-- a new file that is somebody's own others don't write, remove or rename, and they put nothing under its name
pub record OwnFilesAreLeftAlone : Type 0 where
  pub written : (own : List ℕ) (file theirs : Stored) → MayDo (λ f. f ≡ theirs) own (put own file) → ⊥
  pub removed : (own : List ℕ) (theirs : Stored) → MayDo (λ f. f ≡ theirs) own (removed own) → ⊥
  pub renamed : (own to : List ℕ) (file theirs : Stored) (loose : Bool) → MayDo (λ f. f ≡ theirs) own (moved own to file loose) → ⊥
  pub replaced : (own from : List ℕ) (file theirs : Stored) (loose : Bool) → MayDo (λ f. f ≡ theirs) own (moved from own file loose) → ⊥
