use Rattle.std.proofs.Common.{length, ◌-◌, ◌+◌, ◌≡◌, ◌≤◌, drop}
use Rattle.std.specs.List.{position_or_len}
use Rattle.hwdb_spec.specs.Lines.{is_indent}
use Rattle.hwdb_rulecommands.proofs.settable.word_len.Given as goal

abbrev pub invariant-loop-at : goal.invariant-loop-at
invariant-loop-at l = record {
  at_in : l.at ≤ length l.command;
  same : l.at + position_or_len is_indent (drop l.at l.command) ≡ position_or_len is_indent l.command;
}

abbrev pub decreases-loop-at : goal.decreases-loop-at
decreases-loop-at l = length l.command - l.at
