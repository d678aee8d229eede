use Rattle.std.proofs.Common.{map, take}
use Rattle.hwdb_databases.specs.Internal.Unmet.{AreLeft}
use Rattle.hwdb_databases.specs.Views.{change_shown}
use Rattle.hwdb_databases.proofs.unmet.left_patterns.Given as goal

abbrev pub invariant-loop-device : goal.invariant-loop-device
invariant-loop-device l = AreLeft (map (λ d. d.now) (take l.device-index l.devices)) l.fn.sides.old.now l.fn.sides.new.now (map change_shown l.fn.changes) l.still
