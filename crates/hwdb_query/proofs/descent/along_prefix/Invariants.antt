use Rattle.std.proofs.Common.{◌≡◌, ◌≤◌, ◌-◌, ◌++◌, take, drop, length}
use Rattle.hwdb_pattern.specs.Views.{StandsFor}
use Rattle.hwdb_spec.specs.Tree.{prefix_of}
use Rattle.hwdb_reader.specs.Views.{tree_of}
use Rattle.hwdb_query.proofs.descent.along_prefix.Given as goal

abbrev pub invariant-feeding : goal.invariant-feeding
invariant-feeding l = record {
  fed : l.fed ≤ length (prefix_of (tree_of l.node));
  stands : StandsFor l.reach l.path.items;
  same_device : l.reach.device ≡ l.fn.reach.device;
  whole : l.path.items ++ drop l.fed (prefix_of (tree_of l.node)) ≡ l.fn.path.items ++ drop l.fn.fed (prefix_of (tree_of l.node));
  front : take (length l.fn.path.items) l.path.items ≡ l.fn.path.items;
}

abbrev pub decreases-feeding : goal.decreases-feeding
decreases-feeding l = length (prefix_of (tree_of l.node)) - l.fed
