use Rattle.std.proofs.Common.{◌≡◌, ◌++◌, length}
use Rattle.hwdb_spec_commands.specs.DeviceRecords.{up_to_colons}
use Rattle.hwdb_device.proofs.lasting.push_up_to.Given as goal

abbrev pub invariant-adding : goal.invariant-adding
invariant-adding l = l.made.items ++ up_to_colons l.missing l.left ≡ l.fn.made.items ++ up_to_colons l.colons l.text

abbrev pub decreases-adding : goal.decreases-adding
decreases-adding l = length l.left
