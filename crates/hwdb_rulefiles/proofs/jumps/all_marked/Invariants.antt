use Rattle.std.proofs.Common.{◌≡◌, map}
use Rattle.hwdb_rulefiles.specs.RuleJumps.{all_marked}
use Rattle.hwdb_rulefiles.specs.LineViews.{outcome_of}
use Rattle.hwdb_rulefiles.proofs.jumps.all_marked.Given as goal

abbrev pub invariant-loop-outcome : goal.invariant-loop-outcome
invariant-loop-outcome l = map outcome_of l.all.items ≡ all_marked l.marks (map outcome_of l.yielded)
