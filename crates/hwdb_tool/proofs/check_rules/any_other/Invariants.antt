-- Each step leaves one path less, and none of those before it is another.
use Rattle.std.proofs.Common.{◌≡◌, length, map, string_bytes}
use Rattle.std.specs.List.{list_any}
use Rattle.hwdb_spec_commands.specs.Checks.{is_other}
use Rattle.hwdb_tool.proofs.check_rules.any_other.Given as goal

abbrev pub invariant-paths : goal.invariant-paths
invariant-paths l = list_any is_other (map string_bytes l.left) ≡ list_any is_other (map string_bytes l.given)

abbrev pub decreases-paths : goal.decreases-paths
decreases-paths l = length l.left
