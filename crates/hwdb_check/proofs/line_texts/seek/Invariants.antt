use Rattle.std.proofs.Common.{◌-◌, ◌≤◌}
use Rattle.hwdb_check.specs.Internal.{IsStart}
use Rattle.hwdb_check.proofs.line_texts.seek.Given as goal

abbrev pub invariant-loop-start : goal.invariant-loop-start
invariant-loop-start l = record {
  start : IsStart l.bytes l.start;
  before : l.start.number ≤ l.number;
}

abbrev pub decreases-loop-start : goal.decreases-loop-start
decreases-loop-start l = l.number - l.start.number
