use Rattle.std.proofs.Common.{◌≡◌, ◌+◌, ◌++◌, [], None, length, map, IfNone}
use Rattle.hwdb_spec_commands.specs.Reviews.{review_in, reviewed}
use Rattle.hwdb_spec.specs.Assignment.{text_cmp}
use Rattle.hwdb_spec.specs.Tree.{members_under}
use Rattle.hwdb_reader.specs.Unread.{new_file, old_file}
use Rattle.hwdb_reader.specs.Views.{tree_of}
use Rattle.hwdb_databases.specs.Views.{held_shown}
use Rattle.hwdb_databases.specs.Internal.Spellings.{IsAbreast}
use Rattle.hwdb_databases.specs.Internal.Trails.{path_of}
use Rattle.hwdb_databases.specs.Internal.Merging.{merged}
use Rattle.hwdb_databases.specs.Internal.Meeting.{AreOf, IsUnderWay, left_of, to_meet}
use Rattle.hwdb_databases.proofs.meeting.changes_met.Given as goal

abbrev pub invariant-pairs : goal.invariant-pairs
invariant-pairs l = record {
  all : map held_shown l.all.items ++ reviewed (review_in l.review) (to_meet l.before l.after) ≡ reviewed (review_in l.review) (merged (members_under [] (tree_of l.old)) (members_under [] (tree_of l.new)));
  old_walk : IsUnderWay (tree_of l.old) l.before;
  new_walk : IsUnderWay (tree_of l.new) l.after;
  old_end : IfNone l.before.next (l.before.walk.at ≡ None);
  new_end : IfNone l.after.next (l.after.walk.at ≡ None);
  old_from : AreOf (old_file l.twins) l.before;
  new_from : AreOf (new_file l.twins) l.after;
  abreast : IsAbreast l.before.walk.trail.segments.items l.after.walk.trail.segments.items l.abreast;
  order : l.abreast.order ≡ text_cmp (path_of l.before.walk.trail) (path_of l.after.walk.trail);
}

abbrev pub decreases-pairs : goal.decreases-pairs
decreases-pairs l = length (left_of l.before) + length (left_of l.after)
