use Rattle.std.proofs.Common.{◌≡◌, ◌≤◌, length, take}
use Rattle.hwdb_spec.specs.Lines.{trimmed}
use Rattle.hwdb_text.proofs.line.trim.Given as goal

abbrev pub invariant-loop-end : goal.invariant-loop-end
invariant-loop-end l = record { end_in : l.end ≤ length l.text; same : trimmed (take l.end l.text) ≡ trimmed l.text }

abbrev pub decreases-loop-end : goal.decreases-loop-end
decreases-loop-end l = l.end
