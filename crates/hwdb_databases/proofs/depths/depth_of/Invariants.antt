use Rattle.std.proofs.Common.{◌≡◌, ◌+◌, [], IfNone}
use Rattle.hwdb_databases.specs.Internal.Walks.{IsWalkOf, entered_one, still_left}
use Rattle.hwdb_databases.proofs.depths.depth_of.Given as goal

abbrev pub invariant-nodes : goal.invariant-nodes
invariant-nodes l = record {
  walk : IsWalkOf l.db l.walk;
  end : IfNone l.walk.at (l.walk.stack.items ≡ []);
}

abbrev pub decreases-nodes : goal.decreases-nodes
decreases-nodes l = entered_one l.walk.at + still_left l.walk
