use Rattle.std.proofs.Common.{◌≡◌, ◌-◌, ◌++◌, map, length}
use Rattle.hwdb_rulefiles.specs.RuleText.{first_rows, rows}
use Rattle.hwdb_rulefiles.specs.Views.{text_of}
use Rattle.hwdb_rulefiles.proofs.rows.rows_of.Given as goal

abbrev pub invariant-loop-most : goal.invariant-loop-most
invariant-loop-most l = map text_of l.rows.items ++ first_rows l.most l.rest ≡ rows l.file

abbrev pub decreases-loop-most : goal.decreases-loop-most
decreases-loop-most l = l.most
