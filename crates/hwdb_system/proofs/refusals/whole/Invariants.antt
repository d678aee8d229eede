use Rattle.std.proofs.Common.{◌≡◌, take}
use Rattle.std.specs.List.{concat}
use Rattle.hwdb_system.specs.Internal.{said_parts}
use Rattle.hwdb_system.proofs.refusals.whole.Given as goal

abbrev pub invariant-joining : goal.invariant-joining
invariant-joining l = l.line.items ≡ concat (said_parts l.name 0 (take l.i l.parts))
