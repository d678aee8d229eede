use Rattle.std.proofs.Common.{◌≡◌, map, take}
use Rattle.hwdb_databases.specs.Views.{change_shown, held_shown}
use Rattle.hwdb_databases.proofs.held.pairs_of.Given as goal

abbrev pub invariant-loop-change : goal.invariant-loop-change
invariant-loop-change l = map change_shown l.pairs.items ≡ map held_shown (take l.change-index l.held)
