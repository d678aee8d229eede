use Rattle.std.proofs.Common.{◌≡◌, ◌≤◌, ◌-◌}
use Rattle.hwdb_spec_commands.specs.Inputs.{count_bits}
use Rattle.hwdb_rules.proofs.inputs.count_bits.Given as goal

abbrev pub invariant-loop-seen : goal.invariant-loop-seen
invariant-loop-seen l = record {
  count : l.count ≡ count_bits l.first l.seen l.mask;
  within : l.count ≤ l.seen;
  seen : l.seen ≤ l.many;
}

abbrev pub decreases-loop-seen : goal.decreases-loop-seen
decreases-loop-seen l = l.many - l.seen
