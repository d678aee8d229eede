use Rattle.std.proofs.Common.{◌≡◌, ◌++◌, take}
use Rattle.hwdb_spec_commands.specs.Lookups.{upper}
use Rattle.hwdb_rules.proofs.walks.push_upper.Given as goal

abbrev pub invariant-loop-byte : goal.invariant-loop-byte
invariant-loop-byte l = l.text.items ≡ l.fn.text.items ++ upper (take l.byte-index l.digits)
