use Rattle.std.proofs.Common.{◌≡◌, ◌++◌, drop}
use Rattle.hwdb_rulefiles.specs.RulePairs.{unquoted}
use Rattle.hwdb_rulefiles.proofs.values.unquoted.Given as goal

abbrev pub invariant-loop-at : goal.invariant-loop-at
invariant-loop-at l = l.value.items ++ unquoted (drop l.at l.text) ≡ unquoted l.text
