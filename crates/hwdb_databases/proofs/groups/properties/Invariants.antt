use Rattle.std.proofs.Common.{◌≡◌, drop, map}
use Rattle.hwdb_spec_commands.specs.Renamed.{onto, properties}
use Rattle.hwdb_databases.specs.Views.{change_shown}
use Rattle.hwdb_databases.proofs.groups.properties.Given as goal

abbrev pub invariant-loop-change : goal.invariant-loop-change
invariant-loop-change l =
    properties l.came (map change_shown l.changes) ≡ onto l.text.items (properties l.came (map change_shown (drop l.change-index l.changes)))
