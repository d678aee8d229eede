-- What contracts see of a file that was accepted, and of which windows are read. Our choice.
use Rattle.std.specs.Prelude.{List, ℕ, ◌*◌, ◌<◌, ◌≡◌, drop, length, slice_index, take}
use Rattle.hwdb_spec.specs.Format.{IsDatabase, IsHeader, layout_of}
use Rattle.hwdb_spec.specs.Tree.{Tree}
use Rattle.hwdb_reader.specs.Passes.Views.{IsPart}
use Rattle.hwdb_lookup.specs.declared.files.kept.KeptFile.{KeptFile}
use Rattle.hwdb_lookup.specs.declared.files.windows.ReadWindows.{ReadWindows}

-- what was kept is of this file, which is a database
pub record IsKept (k : KeptFile) (file : List ℕ) : Type 0 where
  pub layout : k.frame.sizes ≡ layout_of file
  pub header : IsHeader file
  pub size : k.size ≡ length file
  pub strings : IsPart file k.frame.sizes.strings k.strings.items
  pub tree : Tree
  pub database : IsDatabase file tree

-- the windows are of this file, 4,096 bytes each
pub record AreOf (r : ReadWindows) (file : List ℕ) : Type 0 where
  pub many : length r.bytes.items ≡ 4096 * length r.places.items
  pub each : (k : ℕ) → k < length r.places.items → IsPart file (slice_index r.places.items k) (take 4096 (drop (k * 4096) r.bytes.items))
