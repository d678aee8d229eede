use Rattle.std.proofs.Common.{◌≡◌, drop, map, string_bytes}
use Rattle.hwdb_spec_commands.specs.Given.{any_dash}
use Rattle.hwdb_tool.proofs.given.any_dash.Given as goal

abbrev pub invariant-loop-path : goal.invariant-loop-path
invariant-loop-path l = any_dash (map string_bytes (drop l.path-index l.given)) ≡ any_dash (map string_bytes l.given)
