use Rattle.std.proofs.Common.{◌≡◌, ◌+◌, map, drop}
use Rattle.hwdb_rulefiles.specs.RuleText.{long_row}
use Rattle.hwdb_rulefiles.specs.Views.{text_of}
use Rattle.hwdb_rulefiles.proofs.whole.long_row.Given as goal

abbrev pub invariant-loop-index : goal.invariant-loop-index
invariant-loop-index l = long_row (l.index + 1) (map text_of (drop l.index l.rows)) ≡ long_row 1 (map text_of l.rows)
