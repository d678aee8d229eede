-- What is known of a file of which some parts were read.
use Rattle.std.specs.Prelude.{List, ℕ, ◌*◌, ◌<◌, ◌≢◌, length, slice_index}
use Rattle.hwdb_spec.specs.Blocks.{block_bytes}
use Rattle.hwdb_lookup.specs.Views.{IsOf}
use Rattle.hwdb_lookup.specs.Windows.{NoneBegins}
use Rattle.hwdb_lookup.specs.Internal.Seen.{IsSeen}
use Rattle.hwdb_lookup.specs.declared.parts.Parts.{Parts}
use Rattle.hwdb_lookup.specs.declared.parts.Parts.TheVariants.{Blocks, Windows}
use Rattle.hwdb_lookup.specs.declared.stop.Stop.{Stop}
use Rattle.hwdb_lookup.specs.declared.stop.Stop.TheVariants.{Missing, Fault, LongPath, Memory}

-- how many bytes the file has
abbrev pub size_of : Parts → ℕ
size_of (Blocks known) = length known.buffer.now
size_of (Windows w) = w.size

-- the file may be the one of which these parts are
abbrev pub MayBeOf : Parts → List ℕ → Type 0
MayBeOf (Blocks known) file = IsOf known file
MayBeOf (Windows w) file = IsSeen w file

-- what has to be read: a block that wasn't, or a window at a place where none begins
abbrev pub IsMissing : Parts → ℕ → Type 0
IsMissing (Blocks known) block = (block * block_bytes < length known.buffer.now) × (slice_index known.present.now block ≢ 1)
IsMissing (Windows w) at = NoneBegins w.bytes.now w.places.now at

-- Why it stops: a part of the file wasn't read; or what is said of a file holds of none that it may be.
abbrev pub Halts : Parts → (List ℕ → Type 0) → Stop → Type 0
Halts parts Said (Missing n) = IsMissing parts n
Halts parts Said (Fault fault) = (file : List ℕ) → MayBeOf parts file → Said file → ⊥
Halts parts Said LongPath = Unit {0}
Halts parts Said Memory = Unit {0}
