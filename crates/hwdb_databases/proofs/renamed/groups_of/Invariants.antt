use Rattle.std.proofs.Common.{◌≡◌, ◌≤◌, ◌-◌, ◌++◌, drop, length, map}
use Rattle.hwdb_spec_commands.specs.Renamed.{groups}
use Rattle.hwdb_databases.specs.Internal.Renaming.{shown}
use Rattle.hwdb_databases.specs.Views.{change_shown}
use Rattle.hwdb_databases.proofs.renamed.groups_of.Given as goal

abbrev pub invariant-loop-from : goal.invariant-loop-from
invariant-loop-from l = record {
  in_all : l.from ≤ length l.changes;
  grouped : map shown l.all.items ++ groups (map change_shown (drop l.from l.changes)) ≡ groups (map change_shown l.changes);
}

abbrev pub decreases-loop-from : goal.decreases-loop-from
decreases-loop-from l = length l.changes - l.from
