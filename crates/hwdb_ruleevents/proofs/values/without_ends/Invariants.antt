use Rattle.std.proofs.Common.{◌≡◌, ◌≤◌, length, take}
use Rattle.hwdb_spec_commands.specs.Sysfs.{cut_back, is_white}
use Rattle.hwdb_ruleevents.proofs.values.without_ends.Given as goal

abbrev pub invariant-loop-end : goal.invariant-loop-end
invariant-loop-end l = record {
  end_in : l.end ≤ length l.value;
  same : cut_back is_white (take l.end l.value) ≡ cut_back is_white l.value;
}

abbrev pub decreases-loop-end : goal.decreases-loop-end
decreases-loop-end l = l.end
