use Rattle.std.proofs.Common.{◌≡◌, ◌++◌, length}
use Rattle.hwdb_spec_commands.specs.Exports as spec
use Rattle.hwdb_exports.proofs.values.decoded.Given as goal

abbrev pub invariant-bytes : goal.invariant-bytes
invariant-bytes l = l.text.items ++ spec.decoded 0 l.left ≡ spec.decoded 0 l.value

abbrev pub decreases-bytes : goal.decreases-bytes
decreases-bytes l = length l.left
