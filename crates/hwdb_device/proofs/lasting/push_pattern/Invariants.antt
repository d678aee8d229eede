use Rattle.std.proofs.Common.{◌≡◌, ◌++◌, take}
use Rattle.hwdb_spec_commands.specs.DeviceRecords
use Rattle.hwdb_device.proofs.lasting.push_pattern.Given as goal

abbrev pub invariant-loop-byte : goal.invariant-loop-byte
invariant-loop-byte l = l.made.items ≡ l.fn.made.items ++ DeviceRecords.pattern_for (take l.byte-index l.text)
