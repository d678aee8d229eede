use Rattle.std.proofs.Common.{◌≡◌, [], None, length, IfNone}
use Rattle.hwdb_spec.specs.Tree.{members_under}
use Rattle.hwdb_databases.specs.Internal.Alike.{are_one}
use Rattle.hwdb_databases.specs.Internal.Trails.{IsCopied}
use Rattle.hwdb_databases.specs.Internal.Meeting.{IsUnderWay, left_of}
use Rattle.hwdb_databases.proofs.alike.are_alike.Given as goal

abbrev pub invariant-members : goal.invariant-members
invariant-members l = record {
  same : are_one (left_of l.before) (left_of l.after) ≡ are_one (members_under [] l.old) (members_under [] l.new);
  old_walk : IsUnderWay l.old l.before;
  new_walk : IsUnderWay l.new l.after;
  old_end : IfNone l.before.next (l.before.walk.at ≡ None);
  new_end : IfNone l.after.next (l.after.walk.at ≡ None);
  old_copied : IsCopied l.before.walk.trail;
  new_copied : IsCopied l.after.walk.trail;
}

abbrev pub decreases-members : goal.decreases-members
decreases-members l = length (left_of l.before)
