use Rattle.std.proofs.Common.{◌≡◌, ◌+◌, ◌++◌, [], map, IfNone}
use Rattle.hwdb_spec.specs.Tree.{Tree}
use Rattle.hwdb_databases.specs.Views.{assignment_of}
use Rattle.hwdb_databases.specs.Internal.Trails.{IsCopied, path_of}
use Rattle.hwdb_databases.specs.Internal.Walks.{IsWalkOf, entered_one, own_of, rest_of, still_left}
use Rattle.hwdb_databases.proofs.walk.push_rest.Given as goal

abbrev pub invariant-nodes : goal.invariant-nodes
invariant-nodes l = record {
  found : map assignment_of l.found.items ++ (own_of (path_of l.walk.trail) l.walk.at ++ rest_of l.walk)
      ≡ map assignment_of l.fn.found.items ++ (own_of (path_of l.fn.walk.trail) l.fn.walk.at ++ rest_of l.fn.walk);
  walk : (t : Tree) × IsWalkOf t l.walk;
  end : IfNone l.walk.at (l.walk.stack.items ≡ []);
  copied : IsCopied l.walk.trail;
}

abbrev pub decreases-nodes : goal.decreases-nodes
decreases-nodes l = entered_one l.walk.at + still_left l.walk
