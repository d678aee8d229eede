use Rattle.std.proofs.Common.{All, List, ℕ, ◌≡◌, ◌<◌, ◌+◌, ◌≤◌, ◌^◌, None, max, reverse, length}
use Rattle.hwdb_databases.specs.Internal.Trails.{Follows, IsSegmentIn}
use Rattle.hwdb_databases.specs.Internal.Walks.{IsOpenIn, to_come, StandsOn, left, named_left, steps, deepest_to_come}
use Rattle.hwdb_databases.proofs.walk.Walk.next.Given as goal

abbrev pub invariant-nodes : goal.invariant-nodes
invariant-nodes l = record {
  none : l.self.at ≡ None;
  rest : to_come l.self.trail.segments.items (reverse l.self.stack.items) ≡ to_come l.initial.self.trail.segments.items (reverse l.initial.self.stack.items);
  stands : StandsOn l.self.trail.segments.items (reverse l.self.stack.items);
  room : l.self.entered + left (reverse l.self.stack.items) < 2 ^ 64;
  counted : l.self.entered ≡ l.initial.self.entered;
  left : left (reverse l.self.stack.items) ≡ left (reverse l.initial.self.stack.items);
  named : named_left (reverse l.self.stack.items) ≡ named_left (reverse l.initial.self.stack.items);
  deepest : max l.self.deepest (deepest_to_come (reverse l.self.stack.items)) ≡ max l.initial.self.deepest (deepest_to_come (reverse l.initial.self.stack.items));
  reached : length l.self.stack.items ≤ l.self.deepest;
  files : (f : List ℕ) → All (IsOpenIn f) l.initial.self.stack.items → All (IsOpenIn f) l.self.stack.items;
  follows : Follows l.initial.self.trail l.self.trail;
  segments : (f : List ℕ) → All (IsOpenIn f) l.initial.self.stack.items → All (IsSegmentIn f) l.initial.self.trail.segments.items → All (IsSegmentIn f) l.self.trail.segments.items;
}

abbrev pub decreases-nodes : goal.decreases-nodes
decreases-nodes l = steps (reverse l.self.stack.items)
