use Rattle.std.proofs.Common.{◌≡◌, ◌+◌, ◌≤◌, ◌++◌, [], map, length, reverse, IfNone}
use Rattle.hwdb_spec.specs.Tree.{members_under}
use Rattle.hwdb_databases.specs.Internal.Trails.{path_of}
use Rattle.hwdb_databases.specs.Internal.Walks.{IsWalkOf, entered_one, named, named_at, named_left, own_of, rest_of, still_left}
use Rattle.hwdb_databases.proofs.summary.summarize.Given as goal

abbrev pub invariant-nodes : goal.invariant-nodes
invariant-nodes l = record {
  files : map (λ t. t.now) l.tally.files.items ++ map (λ f. f.path) (own_of (path_of l.walk.trail) l.walk.at ++ rest_of l.walk) ≡ map (λ f. f.path) (members_under [] l.db);
  keys : map (λ t. t.now) l.tally.keys.items ++ map (λ f. f.position.key) (own_of (path_of l.walk.trail) l.walk.at ++ rest_of l.walk) ≡ map (λ f. f.position.key) (members_under [] l.db);
  patterns : l.tally.patterns + (named_at l.walk.at + named_left (reverse l.walk.stack.items)) ≡ named l.db;
  few : l.tally.patterns ≤ length l.tally.keys.items;
  walk : IsWalkOf l.db l.walk;
  end : IfNone l.walk.at (l.walk.stack.items ≡ []);
}

abbrev pub decreases-nodes : goal.decreases-nodes
decreases-nodes l = entered_one l.walk.at + still_left l.walk
