-- No newline so far.
use Rattle.std.proofs.Common.{◌≤◌, ◌-◌, length, take}
use Rattle.hwdb_spec.specs.Failures.{IsOneLine}
use Rattle.hwdb_spec.proofs.causes.first_line.Given as goal

abbrev pub invariant-loop-end : goal.invariant-loop-end
invariant-loop-end l = (l.end ≤ length l.text) × IsOneLine (take l.end l.text)

abbrev pub decreases-loop-end : goal.decreases-loop-end
decreases-loop-end l = length l.text - l.end
