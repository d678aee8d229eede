use Rattle.std.proofs.Common.{length, ◌-◌, ◌+◌, ◌≡◌, ◌≤◌, drop}
use Rattle.std.specs.List.{position_or_len}
use Rattle.hwdb_rulefiles.specs.RuleText.{is_white}
use Rattle.hwdb_rulefiles.specs.RuleTokens.{is_digit}
use Rattle.hwdb_rulefiles.proofs.tokens.word_len.Given as goal

abbrev pub invariant-loop-at : goal.invariant-loop-at
invariant-loop-at l = record {
  at_in : l.at ≤ length l.text;
  same : l.at + position_or_len is_white (drop l.at l.text) ≡ position_or_len is_white l.text;
}

abbrev pub decreases-loop-at : goal.decreases-loop-at
decreases-loop-at l = length l.text - l.at
