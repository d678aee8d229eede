use Rattle.std.proofs.Common.{◌≡◌, ◌≤◌, ◌-◌, take, drop, length}
use Rattle.hwdb_reader.specs.Views.{children_of, entered_tree}
use Rattle.hwdb_query.specs.Internal.Descents.{kids_of, Passes}
use Rattle.hwdb_query.proofs.descent.OpenNode.next_seen.Given as goal

abbrev pub invariant-loop-done : goal.invariant-loop-done
invariant-loop-done l = record {
  still : l.self ≡ l.fn.self;
  passes : Passes l.fn.self.reach.device (take l.fn.self.length l.fn.path.items) (kids_of l.fn.self) (drop l.done (children_of (entered_tree l.fn.self.inside)));
  within : l.fn.self.length ≤ length l.path.items;
  path : take l.fn.self.length l.path.items ≡ take l.fn.self.length l.fn.path.items;
}

abbrev pub decreases-loop-done : goal.decreases-loop-done
decreases-loop-done l = length (children_of (entered_tree l.fn.self.inside)) - l.done
