use Rattle.std.proofs.Common.{◌≡◌, ◌+◌, map, drop}
use Rattle.hwdb_rulefiles.specs.RuleText.{steps, start}
use Rattle.hwdb_rulefiles.specs.Views.{text_of, reading_of}
use Rattle.hwdb_rulefiles.proofs.whole.whole_lines.Given as goal

abbrev pub invariant-loop-index : goal.invariant-loop-index
invariant-loop-index l = steps (reading_of l.reader) (l.index + 1) (map text_of (drop l.index l.rows)) ≡ steps start 1 (map text_of l.rows)
