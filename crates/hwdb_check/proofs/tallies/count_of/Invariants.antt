use Rattle.std.proofs.Common.{◌≡◌, ◌≤◌, filter, length, take}
use Rattle.hwdb_check.specs.Found.{finds, is_of}
use Rattle.hwdb_check.proofs.tallies.count_of.Given as goal

abbrev pub invariant-loop-one : goal.invariant-loop-one
invariant-loop-one l = record {
  near : l.count ≤ l.one-index;
  is : l.count ≡ length (filter (is_of l.fault) (finds (take l.one-index l.found)));
}
