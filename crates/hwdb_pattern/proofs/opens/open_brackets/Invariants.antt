use Rattle.std.proofs.Common.{◌≡◌, ◌≤◌, length, drop}
use Rattle.hwdb_pattern.specs.Internal.Search.{AreOpen, NeverClose}
use Rattle.hwdb_pattern.proofs.opens.open_brackets.Given as goal

abbrev pub invariant-loop-at : goal.invariant-loop-at
invariant-loop-at l = record {
  within : l.at ≤ length l.pattern;
  size : length l.opens ≡ 4096;
  «open» : AreOpen l.pattern l.opens;
  ahead : NeverClose (drop l.at l.pattern) l.ahead;
}

abbrev pub decreases-loop-at : goal.decreases-loop-at
decreases-loop-at l = l.at
