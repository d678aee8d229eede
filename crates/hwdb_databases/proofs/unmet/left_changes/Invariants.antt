use Rattle.std.proofs.Common.{◌≡◌, map, take}
use Rattle.hwdb_databases.specs.Internal.Unmet.{left_by}
use Rattle.hwdb_databases.specs.Views.{change_shown}
use Rattle.hwdb_databases.proofs.unmet.left_changes.Given as goal

abbrev pub invariant-loop-change : goal.invariant-loop-change
invariant-loop-change l = map change_shown l.left.items ≡ left_by l.fn.still (map change_shown (take l.change-index l.changes))
