use Rattle.std.proofs.Common.{◌≡◌, ◌≤◌, length, take}
use Rattle.hwdb_spec_commands.specs.Sysfs.{cut_back}
use Rattle.hwdb_rules.specs.Internal.{is_cut}
use Rattle.hwdb_rules.proofs.values.without_ends.Given as goal

abbrev pub invariant-loop-end : goal.invariant-loop-end
invariant-loop-end l = record {
  end_in : l.end ≤ length l.value;
  same : cut_back (is_cut l.ends) (take l.end l.value) ≡ cut_back (is_cut l.ends) l.value;
}

abbrev pub decreases-loop-end : goal.decreases-loop-end
decreases-loop-end l = l.end
