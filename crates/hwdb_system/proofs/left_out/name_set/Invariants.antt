use Rattle.std.proofs.Common.{map, string_bytes, take}
use Rattle.hwdb_system.specs.Internal.{IsNameSet}
use Rattle.hwdb_system.proofs.left_out.name_set.Given as goal

abbrev pub invariant-loop-name : goal.invariant-loop-name
invariant-loop-name l = IsNameSet (map string_bytes (take l.name-index l.names)) l.set
