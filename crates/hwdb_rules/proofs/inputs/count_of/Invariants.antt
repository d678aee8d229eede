use Rattle.std.proofs.Common.{◌≡◌, ◌≤◌, length, take}
use Rattle.std.specs.Prelude.{filter}
use Rattle.hwdb_spec_commands.specs.Inputs.{has_bit}
use Rattle.hwdb_rules.proofs.inputs.count_of.Given as goal

abbrev pub invariant-loop-bit : goal.invariant-loop-bit
invariant-loop-bit l = record {
  count : l.count ≡ length (filter (λ bit. has_bit bit l.mask) (take l.bit-index l.bits));
  within : l.count ≤ l.bit-index;
}
