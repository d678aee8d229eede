-- What contracts see of a file of which the strings were read, and windows of its nodes. Our choice.
use Rattle.std.specs.Prelude.{List, ℕ, ◌*◌, ◌+◌, ◌<◌, ◌≢◌, ◌≤◌, length, slice_index, take, drop}
use Rattle.hwdb_reader.specs.Passes.Views.{IsPart, IsOf}
use Rattle.hwdb_lookup.specs.declared.windows.Windows.{Windows}
use Rattle.hwdb_lookup.specs.declared.stop.Stop.{Stop}
use Rattle.hwdb_lookup.specs.declared.stop.Stop.TheVariants.{Missing, Fault, LongPath, Memory}

-- the outline is the file's, and so is each window
pub record IsOfWindows (w : Windows) (file : List ℕ) : Type 0 where
  pub outline : IsOf w.outline file
  pub each : (k : ℕ) → k < length w.places.now → IsPart file (slice_index w.places.now k) (take 4096 (drop (k * 4096) w.bytes.now))

-- no window that was read begins at a place
abbrev pub NoneBegins : (bytes places : List ℕ) (at : ℕ) → Type 0
NoneBegins bytes places at = (k : ℕ) → k < length places → k * 4096 + 4096 ≤ length bytes → slice_index places k ≢ at

-- Why it stops: more has to be read, from a place on where no window begins. Or what is said of a file holds of none that it may be.
abbrev pub StopsOf : Windows → (List ℕ → Type 0) → Stop → Type 0
StopsOf w Said (Missing at) = NoneBegins w.bytes.now w.places.now at
StopsOf w Said (Fault fault) = (file : List ℕ) → IsOfWindows w file → Said file → ⊥
StopsOf w Said LongPath = Unit {0}
StopsOf w Said Memory = Unit {0}
