use Rattle.std.proofs.Common.{◌≡◌, ◌≤◌}
use Rattle.hwdb_spec_commands.specs.Mends.{moved_before}
use Rattle.hwdb_check.proofs.mends.moved_before.Given as goal

abbrev pub invariant-loop-left : goal.invariant-loop-left
invariant-loop-left l = record {
  within : l.left ≤ 256;
  same : moved_before l.pattern l.start l.end l.left ≡ moved_before l.pattern l.start l.end l.at;
}

abbrev pub decreases-loop-left : goal.decreases-loop-left
decreases-loop-left l = l.left
