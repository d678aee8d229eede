use Rattle.std.proofs.Common.{◌≤◌, ◌-◌}
use Rattle.hwdb_query.proofs.next_page.mostly_fall.Given as goal

abbrev pub invariant-probing : goal.invariant-probing
invariant-probing l = record {
  within : l.i ≤ l.count;
  few : l.falls ≤ l.i;
}

abbrev pub decreases-probing : goal.decreases-probing
decreases-probing l = l.count - l.i
