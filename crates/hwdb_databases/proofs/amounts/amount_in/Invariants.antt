use Rattle.std.proofs.Common.{◌≡◌, ◌+◌, ◌++◌, [], List, ℕ, None, map, length, IfNone}
use Rattle.hwdb_spec_commands.specs.Summary.{different}
use Rattle.hwdb_spec.specs.Tree.{members_under}
use Rattle.hwdb_databases.specs.Internal.Counting.{IsHeldFrom, files_in}
use Rattle.hwdb_databases.specs.Internal.Meeting.{AreOf, IsUnderWay, left_of}
use Rattle.hwdb_databases.proofs.amounts.amount_in.Given as goal

abbrev pub invariant-members : goal.invariant-members
invariant-members l = record {
  files : different (files_in l.held ++ map (λ f. f.path) (left_of l.members)) ≡ different (map (λ f. f.path) (members_under [] l.db));
  count : l.held.assignments + length (left_of l.members) ≡ length (members_under [] l.db);
  walk : IsUnderWay l.db l.members;
  end : IfNone l.members.next (l.members.walk.at ≡ None);
  file : (f : List ℕ) × AreOf f l.members × IsHeldFrom f l.held;
}

abbrev pub decreases-members : goal.decreases-members
decreases-members l = length (left_of l.members)
