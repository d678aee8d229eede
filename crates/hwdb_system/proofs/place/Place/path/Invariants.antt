use Rattle.std.proofs.Common.{◌≡◌, map, string_bytes, take}
use Rattle.hwdb_system.specs.Roots.{below}
use Rattle.hwdb_system.proofs.place.Place.path.Given as goal

abbrev pub invariant-loop-name : goal.invariant-loop-name
invariant-loop-name l = string_bytes l.path ≡ below l.self.root.now (map string_bytes (take l.name-index l.name-items))
