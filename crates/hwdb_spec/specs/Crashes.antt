-- What a crash may leave of files, as the store in memory has it, call by call. Only fsync() brings a file's bytes to the
-- disk. That of its folder brings its name there (POSIX, fsync; Linux, fsync(2)). What a crash leaves of all else is
-- anything: our choice.
use Rattle.std.specs.Prelude.{◌≡◌, ◌⊎◌, ℕ, Bool, true, false, ◌||◌, ◌&&◌, if◌then◌else◌, List, [], ◌∷◌, ◌++◌, Option, Some, None, Contains}
use Rattle.std.specs.Str.{bytes_eq}
use Rattle.hwdb_spec.specs.Store.{Stored, Contents, Outcomes}

-- A call that changed the files, or brought them to the disk. A file was made or changed, or synced, or removed. It has
-- another name, and wasn't synced if it is loose. Or the names of all files were synced.
pub data Event : Type 0 where
  put : (path : List ℕ) (file : Stored) → Event
  synced : (path : List ℕ) → Event
  moved : (from to : List ℕ) (file : Stored) (loose : Bool) → Event
  removed : (path : List ℕ) → Event
  names_synced : Event

-- What is under a path, and whether that isn't on the disk. What was there since the names were on the disk, and whether some of
-- that wasn't.
pub record Traces : Type 0 where
  pub now : Option Stored
  pub loose : Bool
  pub before : List (Option Stored)
  pub torn : Bool

-- before any call
abbrev pub begin : Traces
begin = record { now = None; loose = false; before = []; torn = false }

-- something else is under the path
abbrev pub changed : Option Stored → Bool → Traces → Traces
changed now loose s = record { now = now; loose = loose; before = s.before ++ s.now ∷ []; torn = s.torn || loose }

-- what a call makes of a path
abbrev pub after_event : (p : List ℕ) → Traces → Event → Traces
after_event p s (put path file) = if bytes_eq p path then changed (Some file) true s else s
after_event p s (synced path) = if bytes_eq p path then record { now = s.now; loose = false; before = s.before; torn = s.torn } else s
after_event p s (moved from to file loose) = if bytes_eq p to then changed (Some file) loose s
    else (if bytes_eq p from then changed None false s else s)
after_event p s (removed path) = if bytes_eq p path then changed None false s else s
after_event p s names_synced = record { now = s.now; loose = s.loose; before = []; torn = s.torn && s.loose }

-- what calls make of a path
abbrev pub after_events : (p : List ℕ) → Traces → List Event → Traces
after_events p s [] = s
after_events p s (x ∷ xs) = after_events p (after_event p s x) xs

-- what a crash may leave: what is there, what was there, and anything if some of that wasn't on the disk
abbrev pub MayLeave : Traces → Option Stored → Type 0
MayLeave s v = (v ≡ s.now) ⊎ (Contains s.before v ⊎ (s.torn ≡ true))

-- what is under each path after calls on no files
abbrev pub contents_after : List Event → Contents
contents_after xs p = (after_events p begin xs).now

-- what a crash may leave there
abbrev pub outcomes_after : List Event → Outcomes
outcomes_after xs p v = MayLeave (after_events p begin xs) v
