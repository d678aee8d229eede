use Rattle.std.proofs.Common.{◌≡◌, map}
use Rattle.hwdb_rulefiles.specs.RuleFiles.{gathered}
use Rattle.hwdb_rulefiles.specs.ParsedViews.{parsed_of}
use Rattle.hwdb_rulefiles.specs.LineViews.{outcome_of}
use Rattle.hwdb_rulefiles.proofs.parsed.gathered.Given as goal

abbrev pub invariant-loop-outcome : goal.invariant-loop-outcome
invariant-loop-outcome l = parsed_of l.parsed ≡ gathered (map outcome_of l.yielded)
