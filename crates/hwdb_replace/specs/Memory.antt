-- A store in memory: the steps that it keeps, as calls of which a crash may leave this or that.
use Rattle.std.specs.Prelude.{◌≡◌, ◌≢◌, ◌⊎◌, ◌≤◌, ℕ, Bool, false, List, [], ◌∷◌, ◌++◌, length, take, map, Option, Some, None, option_map}
use mathlib.Core.Path.{subst}
use Rattle.std.proofs.Common.{arith, inl, refl, sym}
use Rattle.std.proofs.lemmas.List.{take_all}
use Rattle.hwdb_spec.specs.Crashes.{Event, put, synced, moved, removed, names_synced, Traces, begin, after_event, after_events, contents_after, outcomes_after}
use Rattle.hwdb_spec.specs.Store.{Stored, Contents, Outcomes, IsPartPath, part_mode}
use Rattle.hwdb_replace.specs.declared.memory.File.{File}
use Rattle.hwdb_replace.specs.declared.memory.PathState.{PathState}
use Rattle.hwdb_replace.specs.declared.memory.Step.{Step}
use Rattle.hwdb_replace.specs.declared.memory.Step.TheVariants.{Changed, Synced, Moved, Removed, Kept}

abbrev pub stored : File → Stored
stored f = record { bytes = f.bytes.items; mode = f.mode }

-- the call that a step is
abbrev pub event : Step → Event
event (Changed path file) = put path.items (stored file)
event (Synced path) = synced path.items
event (Moved from to file loose) = moved from.items to.items (stored file) loose
event (Removed path) = removed path.items
event Kept = names_synced

abbrev pub lent : PathState → Traces
lent s = record { now = option_map (λ f. stored f.now) s.now; loose = s.loose; before = map (λ o. option_map (λ f. stored f.now) o) s.before.items; torn = s.torn }

abbrev pub after : (p : List ℕ) → Traces → Step → Traces
after p s step = after_event p s (event step)

-- what the steps make of a path
abbrev pub state_of : (p : List ℕ) → Traces → List Step → Traces
state_of p s steps = after_events p s (map event steps)

-- the contents after the steps, what a crash may leave then, and whether a file is on the disk
abbrev pub seen_of : List Step → Contents
seen_of steps = contents_after (map event steps)

abbrev pub left_of : List Step → Outcomes
left_of steps = outcomes_after (map event steps)

abbrev pub is_whole_of : List Step → List ℕ → Type 0
is_whole_of xs p = (state_of p begin xs).loose ≡ false

-- what a crash might have left after so many of them or more
abbrev pub since_of : List Step → ℕ → Outcomes
since_of xs t p v = (k : ℕ) × (t ≤ k) × (k ≤ length xs) × left_of (take k xs) p v

-- after all of them there is only what may be left then
pub only_now_of : (xs : List Step) (p : List ℕ) (v : Option Stored) → since_of xs (length xs) p v → left_of xs p v
only_now_of xs p v left = subst (λ l. left_of l p v) (take_all left.0 xs left.1) left.3

-- and all of that
pub from_now_of : (xs : List Step) (p : List ℕ) (v : Option Stored) → left_of xs p v → since_of xs (length xs) p v
from_now_of xs p v left = (length xs, omega arith, omega arith, subst (λ l. left_of l p v) (sym (take_all (length xs) xs (omega arith))) left)

-- and a crash since an earlier moment might leave it, too
pub earlier_of : (xs : List Step) (t u : ℕ) (p : List ℕ) (v : Option Stored) → t ≤ u → since_of xs u p v → since_of xs t p v
earlier_of xs t u p v le left = (left.0, omega (arith, le, left.1), left.2, left.3)

-- and what is there is among it
pub stands_of : (xs : List Step) (p : List ℕ) → left_of xs p (seen_of xs p)
stands_of xs p = inl refl

-- the step made or changed the file under a path
abbrev pub IsChange : Step → List ℕ → Stored → Type 0
IsChange (Changed path file) p f = (path.items ≡ p) × (stored file ≡ f)
IsChange _ p f = ⊥

abbrev pub IsSync : Step → List ℕ → Type 0
IsSync (Synced path) p = path.items ≡ p
IsSync _ p = ⊥

abbrev pub IsMove : Step → (from to : List ℕ) → Stored → Bool → Type 0
IsMove (Moved old new file is_loose) from to f loose = (old.items ≡ from) × (new.items ≡ to) × (stored file ≡ f) × (is_loose ≡ loose)
IsMove _ from to f loose = ⊥

abbrev pub IsRemoval : Step → List ℕ → Type 0
IsRemoval (Removed path) p = path.items ≡ p
IsRemoval _ p = ⊥

-- nothing changed, or the new file under some path in the folder was removed
abbrev pub IsClearing : (folder : List ℕ) (old new : List Step) → Type 0
IsClearing folder old new = (new ≡ old) ⊎ ((s : Step) × (p : List ℕ) × (new ≡ old ++ s ∷ []) × IsRemoval s p × IsPartPath folder p)

-- a new file, empty, or none if something has its path
abbrev pub IsCreation : Option Step → List ℕ → Option Stored → Type 0
IsCreation None p there = there ≢ None
IsCreation (Some s) p there = (there ≡ None) × IsChange s p (record { bytes = []; mode = part_mode })

-- another one's step happened, or nothing did
abbrev pub IsPassed : (old new : List Step) → Step → Type 0
IsPassed old new s = (new ≡ old) ⊎ (new ≡ old ++ s ∷ [])
