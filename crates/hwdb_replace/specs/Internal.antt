-- The steps of a replacement: what is before each and after it, what a crash may leave meanwhile, and what an error leaves.
use Rattle.std.specs.Prelude.{◌≡◌, ◌≢◌, ◌⊎◌, ◌<◌, ℕ, List, [], Option, Some, None}
use Rattle.hwdb_spec.specs.Store.{Stored, Contents, Outcomes, Always, AreTaken, Elapses, NoMore, Replaced, Same, SameBut, database_file, database_name, most_parts, part_mode, part_name, path_in}
use Rattle.hwdb_spec.specs.declared.errors.Unreplaced.{Unreplaced}
use Rattle.hwdb_spec.specs.declared.errors.Unreplaced.TheVariants.{Undone, NamesTaken, LeftBehind, Unsynced}
use Rattle.hwdb_replace.specs.declared.calls.Store.{Ghosts}

-- what might have been left before, and under these paths anything
abbrev pub OrAt : (at : List ℕ → Type 0) → Outcomes → Outcomes
OrAt at old p v = old p v ⊎ at p

-- the same, and under another path perhaps this file, whole
abbrev pub OrFile : (at : List ℕ → Type 0) (target : List ℕ) (file : Stored) → Outcomes → Outcomes
OrFile at target file old p v = old p v ⊎ (((p ≡ target) × (v ≡ Some file)) ⊎ at p)

-- a new file, which is empty
abbrev pub empty_file : Stored
empty_file = record { bytes = []; mode = part_mode }

-- the file under one path is gone, and another path may have changed
pub record Moved (part target : List ℕ) (old new : Contents) : Type 0 where
  pub gone : part ≢ target → new part ≡ None
  pub others : (p : List ℕ) → p ≢ part → p ≢ target → new p ≡ old p

-- the path of the database
abbrev pub place : (folder : List ℕ) → List ℕ
place folder = path_in folder database_name

module _ {D : Type 0} (g : Ghosts D) where
  -- A step: how what reads give has changed, if the store tells it; and what a crash may leave, after the step and at each moment
  -- since it began.
  pub record Step (change : Contents → Contents → Type 0) (allowed : Outcomes) (old new : D) : Type 0 where
    pub seen : g.tells → change (g.seen old) (g.seen new)
    pub left : NoMore allowed (g.may_leave new)
    pub time : Elapses (g.moment old) (g.moment new) (g.left_since old) (g.left_since new) allowed

  -- the file under one path has perhaps changed, and nothing else
  abbrev pub Touches : (part : List ℕ) (old new : D) → Type 0
  Touches part old new = Step (SameBut part) (OrAt (λ p. p ≡ part) (g.may_leave old)) old new

  -- the path of a new file; if the store tells, its name is the first one that nothing has
  pub record IsNew (folder : List ℕ) (old : D) (p : List ℕ) : Type 0 where
    pub number : ℕ
    pub tried : number < most_parts
    pub is : p ≡ path_in folder (part_name number)
    pub free : g.tells → g.seen old p ≡ None
    pub first : g.tells → AreTaken folder number (g.seen old)

  -- the file that was made last is under this path, and empty
  pub record IsEmpty (part : List ℕ) (store : D) : Type 0 where
    pub is : g.part store ≡ part
    pub seen : g.seen store part ≡ Some empty_file

  -- a new file is made, empty and one's own, and nothing else has changed
  pub record Makes (folder part : List ℕ) (old new : D) : Type 0 where
    pub is : IsNew folder old part
    pub own : g.is_own new part
    pub empty : g.tells_own → IsEmpty part new
    pub step : Step (Replaced part empty_file) (OrAt (λ p. p ≡ part) (g.may_leave old)) old new

  -- no file is made: a call failed, or every name was taken
  abbrev pub NotMade : (folder : List ℕ) (old new : D) → Unreplaced → Type 0
  NotMade folder old new Undone = Step Same (g.may_leave old) old new
  NotMade folder old new NamesTaken = Step (λ a b. Same a b × AreTaken folder most_parts a) (g.may_leave old) old new
  NotMade folder old new LeftBehind = ⊥
  NotMade folder old new Unsynced = ⊥

  -- one's own new file has perhaps changed, and nothing else
  pub record Fills (old new : D) : Type 0 where
    pub part : g.part new ≡ g.part old
    pub own : (p : List ℕ) → g.is_own old p → g.is_own new p
    pub step : Touches (g.part old) old new

  -- the new file has these bytes, is on the disk, and is under the other path
  pub record Settles (part target bytes : List ℕ) (old new : D) : Type 0 where
    pub there : g.seen new target ≡ Some (database_file bytes)
    pub put : g.may_leave new target (Some (database_file bytes))
    pub whole : g.is_whole new target
    pub step : Step (Moved part target) (OrFile (λ p. p ≡ part) target (database_file bytes) (g.may_leave old)) old new

  -- the database has these bytes, and nothing else has changed
  abbrev pub Places : (folder bytes : List ℕ) (old new : D) → Type 0
  Places folder bytes old new =
      Step (Replaced (place folder) (database_file bytes))
      (OrFile (IsNew folder old) (place folder) (database_file bytes) (g.may_leave old)) old new

  -- it has them on the disk, too
  pub record Exchanges (folder bytes : List ℕ) (old new : D) : Type 0 where
    pub durable : g.tells → Always (place folder) (Some (database_file bytes)) (g.may_leave new)
    pub last : (v : Option Stored) → g.may_leave new (place folder) v
        → (v ≡ Some (database_file bytes)) ⊎ g.theirs (place folder) v
    pub put : g.left_since new (g.moment old) (place folder) (Some (database_file bytes))
    pub step : Places folder bytes old new

  -- what an exchange that failed leaves
  abbrev pub Fails : (folder bytes : List ℕ) (old new : D) → Unreplaced → Type 0
  Fails folder bytes old new Undone = Step Same (OrAt (IsNew folder old) (g.may_leave old)) old new
  Fails folder bytes old new NamesTaken = Step (λ a b. Same a b × AreTaken folder most_parts a) (g.may_leave old) old new
  Fails folder bytes old new LeftBehind =
      Step (λ a b. (p : List ℕ) → (b p ≡ a p) ⊎ IsNew folder old p) (OrAt (IsNew folder old) (g.may_leave old)) old new
  Fails folder bytes old new Unsynced = Places folder bytes old new
