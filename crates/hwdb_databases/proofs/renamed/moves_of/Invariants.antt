use Rattle.std.proofs.Common.{◌≤◌, drop, length, map}
use Rattle.hwdb_databases.specs.Internal.Renaming.{IsOf, shown}
use Rattle.hwdb_databases.proofs.renamed.moves_of.Given as goal

abbrev pub invariant-loop-left : goal.invariant-loop-left
invariant-loop-left l = record {
  in_all : l.left ≤ length l.groups;
  known : IsOf l.moves (map shown (drop l.left l.groups));
}

abbrev pub decreases-loop-left : goal.decreases-loop-left
decreases-loop-left l = l.left
