-- What a replacement of the database that failed leaves. Our choice.
use Rattle.std.specs.Prelude.{◌⊎◌, ℕ, List}
use Rattle.hwdb_spec.specs.Failures.{after_failure}
use Rattle.hwdb_spec.specs.Store.{Contents, Outcomes, Same, NoMore, Cleared, Installed, AreTaken, IsKept, IsPart, OldOrCleared, OldOrPart, OldOrNew, most_parts}
use Rattle.hwdb_spec.specs.declared.errors.Unreplaced.{Unreplaced}
use Rattle.hwdb_spec.specs.declared.errors.Unreplaced.TheVariants.{Undone, NamesTaken, LeftBehind, Unsynced}

-- what a read gives then
abbrev pub IsSeen : (folder bytes : List ℕ) (old new : Contents) → Unreplaced → Type 0
IsSeen folder bytes old new Undone = Cleared folder old new
IsSeen folder bytes old new NamesTaken = Same old new × AreTaken folder most_parts old
IsSeen folder bytes old new LeftBehind = (p : List ℕ) → IsKept folder old new p ⊎ IsPart folder old p
IsSeen folder bytes old new Unsynced = Installed folder bytes old new

-- what a crash may leave then
abbrev pub IsLeft : (folder bytes : List ℕ) (old : Contents) (before now : Outcomes) → Unreplaced → Type 0
IsLeft folder bytes old before now Undone = NoMore (OldOrPart folder old before) now
IsLeft folder bytes old before now NamesTaken = NoMore (OldOrCleared folder before) now
IsLeft folder bytes old before now LeftBehind = NoMore (OldOrPart folder old before) now
IsLeft folder bytes old before now Unsynced = NoMore (OldOrNew folder bytes old before) now

-- how many calls have failed then
abbrev pub failures_after : Unreplaced → ℕ → ℕ
failures_after Undone before = after_failure before
failures_after NamesTaken before = before
failures_after LeftBehind before = after_failure (after_failure before)
failures_after Unsynced before = after_failure before
