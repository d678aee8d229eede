use Rattle.std.proofs.Common.{◌≡◌, map, take}
use Rattle.hwdb_rulefiles.specs.RuleLines.{read_line}
use Rattle.hwdb_rulefiles.specs.Views.{whole_of}
use Rattle.hwdb_rulefiles.specs.LineViews.{outcome_of}
use Rattle.hwdb_rulefiles.proofs.parsed.read_all.Given as goal

abbrev pub invariant-loop-line : goal.invariant-loop-line
invariant-loop-line l = map outcome_of l.all.items ≡ map read_line (map whole_of (take l.line-index l.lines))
