use Rattle.std.proofs.Common.{length, ◌-◌, ◌+◌, ◌≡◌, ◌≤◌, map, drop}
use Rattle.std.specs.List.{position_or_len}
use Rattle.hwdb_rulefiles.specs.TokenViews.{token_of}
use Rattle.hwdb_rulerun.specs.Conditions.{is_parents}
use Rattle.hwdb_ruleevents.proofs.parents.first_len.Given as goal

abbrev pub invariant-loop-at : goal.invariant-loop-at
invariant-loop-at l = record {
  at_in : l.at ≤ length l.tokens;
  same : l.at + position_or_len (λ t. is_parents t.kind) (map token_of (drop l.at l.tokens)) ≡ position_or_len (λ t. is_parents t.kind) (map token_of l.tokens);
}

abbrev pub decreases-loop-at : goal.decreases-loop-at
decreases-loop-at l = length l.tokens - l.at
