use Rattle.std.proofs.Common.{◌≡◌, take}
use Rattle.hwdb_spec_commands.specs.Lookups.{without_colons}
use Rattle.hwdb_rules.proofs.late.without_colons.Given as goal

abbrev pub invariant-loop-byte : goal.invariant-loop-byte
invariant-loop-byte l = l.left.items ≡ without_colons (take l.byte-index l.text)
