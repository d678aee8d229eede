use Rattle.std.proofs.Common.{◌≡◌, map, take}
use Rattle.hwdb_spec_commands.specs.DeviceTree.{unescaped}
use Rattle.hwdb_sysfs.proofs.paths.kernel_name.Given as goal

abbrev pub invariant-loop-byte : goal.invariant-loop-byte
invariant-loop-byte l = l.name.items ≡ map unescaped (take l.byte-index l.last)
