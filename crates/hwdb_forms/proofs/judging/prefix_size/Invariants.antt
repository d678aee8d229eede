use Rattle.std.proofs.Common.{◌≡◌, ◌+◌, ◌-◌, ◌≤◌, length, drop}
use Rattle.std.specs.List.{position_or_len}
use Rattle.hwdb_spec.specs.Forms.{ends_prefix}
use Rattle.hwdb_forms.proofs.judging.prefix_size.Given as goal

abbrev pub invariant-loop-at : goal.invariant-loop-at
invariant-loop-at l = record {
  within : l.at ≤ length l.pattern;
  place : l.at + position_or_len ends_prefix (drop l.at l.pattern) ≡ position_or_len ends_prefix l.pattern;
}

abbrev pub decreases-loop-at : goal.decreases-loop-at
decreases-loop-at l = length l.pattern - l.at
