use Rattle.std.proofs.Common.{◌≡◌, ◌≤◌, ◌+◌, ◌++◌, [], None, map, length, IfNone}
use Rattle.hwdb_spec_commands.specs.Status.{first_text}
use Rattle.hwdb_spec_commands.specs.Summary.{different}
use Rattle.hwdb_spec.specs.Assignment.{text_cmp}
use Rattle.hwdb_spec.specs.Tree.{members_under}
use Rattle.hwdb_reader.specs.Unread.{new_file, old_file}
use Rattle.hwdb_reader.specs.Views.{tree_of}
use Rattle.hwdb_databases.specs.Internal.Counting.{IsHeldFrom, files_in, first_kept}
use Rattle.hwdb_databases.specs.Internal.Spellings.{IsAbreast}
use Rattle.hwdb_databases.specs.Internal.Trails.{path_of}
use Rattle.hwdb_databases.specs.Internal.Merging.{merged}
use Rattle.hwdb_databases.specs.Internal.Meeting.{AreOf, IsUnderWay, left_of, to_meet}
use Rattle.hwdb_databases.proofs.freshness.walked.Given as goal

abbrev pub invariant-pairs : goal.invariant-pairs
invariant-pairs l = record {
  first : first_kept l.tally.first.items (to_meet l.before l.after) ≡ first_text (merged (members_under [] (tree_of l.old)) (members_under [] (tree_of l.new)));
  changes : l.tally.changes + length (to_meet l.before l.after) ≡ length (merged (members_under [] (tree_of l.old)) (members_under [] (tree_of l.new)));
  bound : l.tally.changes + (length (left_of l.before) + length (left_of l.after)) ≤ length (members_under [] (tree_of l.old)) + length (members_under [] (tree_of l.new));
  files : different (files_in l.held ++ map (λ f. f.path) (left_of l.before)) ≡ different (map (λ f. f.path) (members_under [] (tree_of l.old)));
  count : l.held.assignments + length (left_of l.before) ≡ length (members_under [] (tree_of l.old));
  old_walk : IsUnderWay (tree_of l.old) l.before;
  new_walk : IsUnderWay (tree_of l.new) l.after;
  old_end : IfNone l.before.next (l.before.walk.at ≡ None);
  new_end : IfNone l.after.next (l.after.walk.at ≡ None);
  old_from : AreOf (old_file l.twins) l.before;
  new_from : AreOf (new_file l.twins) l.after;
  abreast : IsAbreast l.before.walk.trail.segments.items l.after.walk.trail.segments.items l.abreast;
  order : l.abreast.order ≡ text_cmp (path_of l.before.walk.trail) (path_of l.after.walk.trail);
  last : IsHeldFrom (old_file l.twins) l.held;
}

abbrev pub decreases-pairs : goal.decreases-pairs
decreases-pairs l = length (left_of l.before) + length (left_of l.after)
