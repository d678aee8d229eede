use Rattle.std.proofs.Common.{◌≡◌, ◌<◌, ◌+◌, ◌^◌, [], filter, reverse}
use Rattle.hwdb_spec.specs.Answers.{is_wanted}
use Rattle.hwdb_spec.specs.Tree.{members_under, live_nodes}
use Rattle.hwdb_reader.specs.Views.{tree_of}
use Rattle.hwdb_query.specs.Internal.LongPaths.{path_of}
use Rattle.hwdb_query.specs.Internal.Descents.{to_come, live_to_come, left, steps, StandsOn}
use Rattle.hwdb_query.proofs.descent.descend.Given as goal

abbrev pub invariant-descending : goal.invariant-descending
invariant-descending g l = record {
  stands : StandsOn l.fn.device (path_of l.descent.path) (reverse l.descent.stack.items);
  collected : (end : g.row.C.Denot) → g.C.Collector.collects l.into (to_come l.fn.device (path_of l.descent.path) (reverse l.descent.stack.items)) end
      → g.C.Collector.collects l.fn.into (filter (is_wanted l.fn.device) (members_under [] (tree_of l.fn.root))) end;
  counted : l.descent.entered + live_to_come l.fn.device (path_of l.descent.path) (reverse l.descent.stack.items) ≡ live_nodes l.fn.device (tree_of l.fn.root);
  room : l.descent.entered + left (reverse l.descent.stack.items) < 2 ^ 64;
}

abbrev pub decreases-descending : goal.decreases-descending
decreases-descending g l = steps (reverse l.descent.stack.items)
