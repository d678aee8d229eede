-- What is known of a file of which the strings were read, and windows of its nodes.
use Rattle.std.specs.Prelude.{List, ℕ, ◌*◌, ◌-◌, ◌<◌, ◌≡◌, length, slice_index, take, drop}
use Rattle.hwdb_reader.specs.Passes.Views.{IsPart}
use Rattle.hwdb_lookup.specs.Windows.{NoneBegins}
use Rattle.hwdb_lookup.specs.declared.seen.Seen.{Seen}
use Rattle.hwdb_lookup.specs.declared.stop.Stop.{Stop}
use Rattle.hwdb_lookup.specs.declared.stop.Stop.TheVariants.{Fault, LongPath, Memory, Missing}

-- its last bytes are the strings, and each window is a part of it
pub record IsSeen (s : Seen) (file : List ℕ) : Type 0 where
  pub size : length file ≡ s.size
  pub strings : IsPart file (s.size - length s.strings.now) s.strings.now
  pub each : (k : ℕ) → k < length s.places.now → IsPart file (slice_index s.places.now k) (take 4096 (drop (k * 4096) s.bytes.now))

-- more has to be read, from a place on where no window begins, and nothing is said of the file
abbrev pub IsPause : Seen → Stop → Type 0
IsPause w (Missing at) = NoneBegins w.bytes.now w.places.now at
IsPause w (Fault fault) = ⊥
IsPause w LongPath = Unit {0}
IsPause w Memory = Unit {0}
