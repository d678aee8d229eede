use Rattle.std.proofs.Common.{length, ◌≡◌, ◌≤◌, drop, map}
use Rattle.hwdb_rulefiles.specs.TokenViews.{token_of}
use Rattle.hwdb_rulerun.specs.Telling
use Rattle.hwdb_rulerun.specs.Views.{sight_of}
use Rattle.hwdb_rulerun.proofs.conditions.all_own.Given as goal

abbrev pub invariant-loop-at : goal.invariant-loop-at
invariant-loop-at l = record {
  at_in : l.at ≤ length l.tokens;
  same : l.all ≡ Telling.all_own (sight_of l.sight) (map token_of (drop l.at l.tokens));
}

abbrev pub decreases-loop-at : goal.decreases-loop-at
decreases-loop-at l = l.at
