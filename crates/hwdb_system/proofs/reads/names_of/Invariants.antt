use Rattle.std.proofs.Common.{◌≡◌, ◌++◌, filter, length, map}
use Rattle.std.specs.Prelude.{string_bytes}
use Rattle.hwdb_spec.specs.Folders.{counts}
use Rattle.hwdb_system.specs.Raw.{entries}
use Rattle.hwdb_system.proofs.reads.names_of.Given as goal

abbrev pub invariant-names : goal.invariant-names
invariant-names l = map string_bytes l.names.items ++ filter counts (entries l.left) ≡ filter counts (entries l.listing)

abbrev pub decreases-names : goal.decreases-names
decreases-names l = length l.left
