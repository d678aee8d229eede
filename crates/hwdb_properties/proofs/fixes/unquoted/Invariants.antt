use Rattle.std.proofs.Common.{◌≡◌, filter, not, take}
use Rattle.hwdb_spec_commands.specs.Fixes.{is_quote}
use Rattle.hwdb_properties.proofs.fixes.unquoted.Given as goal

abbrev pub invariant-loop-byte : goal.invariant-loop-byte
invariant-loop-byte l = l.bare.items ≡ filter (λ b. not (is_quote b)) (take l.byte-index l.text)
