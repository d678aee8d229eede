use Rattle.std.proofs.Common.{map, take}
use Rattle.hwdb_databases.specs.Internal.Unmet.{AreNamed}
use Rattle.hwdb_databases.specs.Views.{change_shown}
use Rattle.hwdb_databases.proofs.unmet.patterns_of.Given as goal

abbrev pub invariant-loop-change : goal.invariant-loop-change
invariant-loop-change l = AreNamed (map change_shown (take l.change-index l.changes)) l.still
