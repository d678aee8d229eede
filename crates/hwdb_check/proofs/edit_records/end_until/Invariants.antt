use Rattle.std.proofs.Common.{◌≡◌, ◌≤◌, ◌+◌, ◌-◌, drop, length}
use Rattle.std.specs.Prelude.{nat_le}
use Rattle.std.specs.List.{prefix_len}
use Rattle.hwdb_check.proofs.edit_records.end_until.Given as goal

abbrev pub invariant-own : goal.invariant-own
invariant-own l = record {
  after : l.from ≤ l.end;
  within : l.end ≤ length l.found;
  same : l.from + prefix_len (λ f. nat_le f.line l.last) (drop l.from l.found) ≡ l.end + prefix_len (λ f. nat_le f.line l.last) (drop l.end l.found);
}

abbrev pub decreases-own : goal.decreases-own
decreases-own l = length l.found - l.end
