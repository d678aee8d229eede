use Rattle.std.proofs.Common.{◌≤◌, ◌-◌, length, take}
use Rattle.hwdb_check.specs.Plain.{IsTame}
use Rattle.hwdb_check.proofs.plain_files.tame_size.Given as goal

abbrev pub invariant-loop-at : goal.invariant-loop-at
invariant-loop-at l = record {
  within : l.at ≤ length l.text;
  tame : IsTame 10 (take l.at l.text);
}

abbrev pub decreases-loop-at : goal.decreases-loop-at
decreases-loop-at l = length l.text - l.at
