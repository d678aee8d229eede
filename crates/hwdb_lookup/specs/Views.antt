-- What contracts see of a file of which some blocks were read. Our choice.
use Rattle.std.specs.Prelude.{List, ℕ, ◌*◌, ◌<◌, ◌≢◌, length, slice_index}
use Rattle.hwdb_spec.specs.Blocks.{block_bytes, MayBe}
use Rattle.hwdb_lookup.specs.declared.known.Known.{Known}
use Rattle.hwdb_lookup.specs.declared.stop.Stop.{Stop}
use Rattle.hwdb_lookup.specs.declared.stop.Stop.TheVariants.{Missing, Fault, LongPath, Memory}

-- the file may be the one of which these blocks are
abbrev pub IsOf : Known → List ℕ → Type 0
IsOf known file = MayBe known.buffer.now known.present.now file

-- Why it stops: a block of the file wasn't read; or what is said of a file holds of none that it may be.
abbrev pub Stops : Known → (List ℕ → Type 0) → Stop → Type 0
Stops known Said (Missing block) = (block * block_bytes < length known.buffer.now) × (slice_index known.present.now block ≢ 1)
Stops known Said (Fault fault) = (file : List ℕ) → IsOf known file → Said file → ⊥
Stops known Said LongPath = Unit {0}
Stops known Said Memory = Unit {0}
