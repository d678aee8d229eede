use Rattle.std.proofs.Common.{◌≡◌, codes, length}
use Rattle.hwdb_spec_commands.specs.DeviceRecords.{from_first}
use Rattle.hwdb_device.proofs.lasting.from_vendor.Given as goal

abbrev pub invariant-looking : goal.invariant-looking
invariant-looking l = from_first (codes ":svn") l.left ≡ from_first (codes ":svn") l.text

abbrev pub decreases-looking : goal.decreases-looking
decreases-looking l = length l.left
