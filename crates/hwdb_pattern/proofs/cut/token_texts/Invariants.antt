use Rattle.std.proofs.Common.{◌≡◌, ◌≤◌, ◌-◌, ◌++◌, length, drop, map}
use Rattle.hwdb_spec.specs.Patterns.{token_at, tokens}
use Rattle.hwdb_pattern.proofs.cut.token_texts.Given as goal

abbrev pub invariant-loop-at : goal.invariant-loop-at
invariant-loop-at l = record {
  within : l.at ≤ length l.pattern;
  done : map (λ text. token_at text.now) l.texts.items ++ tokens (drop l.at l.pattern) ≡ tokens l.pattern;
}

abbrev pub decreases-loop-at : goal.decreases-loop-at
decreases-loop-at l = length l.pattern - l.at
