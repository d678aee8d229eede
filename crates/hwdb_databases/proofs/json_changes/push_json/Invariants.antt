use Rattle.std.proofs.Common.{◌≡◌, ◌++◌, flat_map, map, take}
use Rattle.hwdb_spec_commands.specs.ChangeForms.{change_json}
use Rattle.hwdb_databases.specs.Views.{change_shown}
use Rattle.hwdb_databases.proofs.json_changes.push_json.Given as goal

abbrev pub invariant-loop-change : goal.invariant-loop-change
invariant-loop-change l = l.text.items ≡ l.fn.text.items ++ flat_map change_json (map change_shown (take l.change-index l.changes))
