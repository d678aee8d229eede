use Rattle.std.proofs.Common.{◌≡◌}
use Rattle.hwdb_rulefiles.specs.RuleLines.{taking_most, read_pairs}
use Rattle.hwdb_rulefiles.specs.LineViews.{taking_of}
use Rattle.hwdb_rulefiles.proofs.lines.read_pairs.Given as goal

abbrev pub invariant-loop-most : goal.invariant-loop-most
invariant-loop-most l = taking_most l.most (taking_of l.taking) l.line l.text l.rest ≡ read_pairs l.line l.text

abbrev pub decreases-loop-most : goal.decreases-loop-most
decreases-loop-most l = l.most
