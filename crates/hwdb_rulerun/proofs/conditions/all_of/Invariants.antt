use Rattle.std.proofs.Common.{length, ◌≡◌, ◌≤◌, drop, map}
use Rattle.hwdb_rulefiles.specs.TokenViews.{token_of}
use Rattle.hwdb_rulerun.specs.Telling
use Rattle.hwdb_rulerun.specs.Views.{seen_of}
use Rattle.hwdb_rulerun.proofs.conditions.all_of.Given as goal

abbrev pub invariant-loop-at : goal.invariant-loop-at
invariant-loop-at l = record {
  at_in : l.at ≤ length l.tokens;
  same : l.all ≡ Telling.all_of (seen_of l.seen) (map token_of (drop l.at l.tokens));
}

abbrev pub decreases-loop-at : goal.decreases-loop-at
decreases-loop-at l = l.at
