use Rattle.std.proofs.Common.{◌≡◌, List, ℕ, length}
use Rattle.hwdb_compile.specs.Views.{sources}
use Rattle.hwdb_spec.specs.Folders.{first_of}
use Rattle.hwdb_compile.specs.Internal.Reading.{bytes_at}
use Rattle.hwdb_compile.proofs.sources.put_files.Given as goal

abbrev pub invariant-files : goal.invariant-files
invariant-files l = (name : List ℕ) → first_of name (sources l.rest) (bytes_at l.index name) ≡ first_of name (sources l.fn.files) (bytes_at l.fn.index name)

abbrev pub decreases-files : goal.decreases-files
decreases-files l = length l.rest
