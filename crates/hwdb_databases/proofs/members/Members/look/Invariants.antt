use Rattle.std.proofs.Common.{◌≡◌, None, drop}
use Rattle.hwdb_spec.specs.Tree.{values_of}
use Rattle.hwdb_reader.specs.Views.{entered_tree}
use Rattle.hwdb_query.specs.Internal.Members.{own_members}
use Rattle.hwdb_databases.specs.Internal.Trails.{path_of}
use Rattle.hwdb_databases.proofs.members.Members.look.Given as goal

abbrev pub invariant-loop-i : goal.invariant-loop-i
invariant-loop-i l = record {
  none : l.self.next ≡ None;
  looked : l.self.looked ≡ l.initial.self.looked;
  same : l.self.walk ≡ l.initial.self.walk;
  rest : own_members (path_of l.initial.self.walk.trail) (drop l.i (values_of (entered_tree l.inside)))
      ≡ own_members (path_of l.initial.self.walk.trail) (drop l.initial.self.looked (values_of (entered_tree l.inside)));
}
