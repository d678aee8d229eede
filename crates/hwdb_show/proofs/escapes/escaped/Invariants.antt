use Rattle.std.proofs.Common.{◌≡◌, ◌++◌, drop}
use Rattle.hwdb_spec_commands.specs.Json.{escaped_after}
use Rattle.std.proofs.Common.{false}
use Rattle.hwdb_show.proofs.escapes.escaped.Given as goal

abbrev pub invariant-escaping : goal.invariant-escaping
invariant-escaping l = l.text.items ++ escaped_after l.second (drop l.i l.json.items) ≡ escaped_after false l.json.items
