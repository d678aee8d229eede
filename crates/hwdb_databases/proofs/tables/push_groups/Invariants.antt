use Rattle.std.proofs.Common.{◌≡◌, ◌++◌, map, take}
use Rattle.std.specs.Prelude.{flat_map}
use Rattle.hwdb_spec_commands.specs.Tables.{group_table}
use Rattle.hwdb_databases.specs.Internal.Renaming.{shown}
use Rattle.hwdb_databases.proofs.tables.push_groups.Given as goal

abbrev pub invariant-loop-group : goal.invariant-loop-group
invariant-loop-group l = l.text.items ≡ l.fn.text.items ++ flat_map group_table (map shown (take l.group-index l.groups))
