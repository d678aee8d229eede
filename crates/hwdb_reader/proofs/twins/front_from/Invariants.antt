use Rattle.std.proofs.Common.{◌≤◌, ◌-◌}
use Rattle.hwdb_reader.specs.Internal.Shared.{Agree}
use Rattle.hwdb_reader.proofs.twins.front_from.Given as goal

abbrev pub invariant-steps : goal.invariant-steps
invariant-steps l = record {
  within : l.n ≤ l.most;
  same : Agree l.a l.b 0 0 l.n;
}

abbrev pub decreases-steps : goal.decreases-steps
decreases-steps l = l.most - l.n
