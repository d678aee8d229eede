use Rattle.std.proofs.Common.{◌≡◌, ◌++◌, [], None, length, IfNone}
use Rattle.hwdb_spec.specs.Tree.{members_under}
use Rattle.hwdb_databases.specs.Internal.Holding.{AllWithin, all_held}
use Rattle.hwdb_databases.specs.Internal.Trails.{IsCopied}
use Rattle.hwdb_databases.specs.Internal.Meeting.{IsUnderWay, left_of}
use Rattle.hwdb_databases.proofs.holding.keep.Given as goal

abbrev pub invariant-members : goal.invariant-members
invariant-members l = record {
  held : all_held l.kept ++ left_of l.members ≡ members_under [] l.db;
  within : AllWithin l.kept;
  walk : IsUnderWay l.db l.members;
  end : IfNone l.members.next (l.members.walk.at ≡ None);
  copied : IsCopied l.members.walk.trail;
}

abbrev pub decreases-members : goal.decreases-members
decreases-members l = length (left_of l.members)
