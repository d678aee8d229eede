use Rattle.std.proofs.Common.{◌≡◌, ◌≤◌, ◌+◌, length, drop, take}
use Rattle.hwdb_spec.specs.Patterns.{tokens}
use Rattle.hwdb_spec.specs.Forms.{text_size}
use Rattle.hwdb_pattern.proofs.cut.front_size.Given as goal

abbrev pub invariant-loop-left : goal.invariant-loop-left
invariant-loop-left l = record {
  within : l.at ≤ length l.pattern;
  sum : l.at + text_size (take l.left (tokens (drop l.at l.pattern))) ≡ text_size (take l.count (tokens l.pattern));
}

abbrev pub decreases-loop-left : goal.decreases-loop-left
decreases-loop-left l = l.left
