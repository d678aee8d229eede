use Rattle.std.proofs.Common.{◌≡◌, ◌++◌, drop, map}
use Rattle.hwdb_spec_commands.specs.Properties.{lower}
use Rattle.hwdb_properties.proofs.nearest.lowered.Given as goal

abbrev pub invariant-loop-byte : goal.invariant-loop-byte
invariant-loop-byte l = l.low.items ++ map lower (drop l.byte-index l.text) ≡ map lower l.text
