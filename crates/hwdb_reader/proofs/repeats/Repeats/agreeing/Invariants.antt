use Rattle.std.proofs.Common.{◌≡◌, ◌≤◌, ◌+◌, ◌-◌, ◌*◌}
use Rattle.hwdb_reader.specs.Internal.Repeats.{AgreeInside, Ends}
use Rattle.hwdb_reader.proofs.repeats.Repeats.agreeing.Given as goal

abbrev pub invariant-loop-size : goal.invariant-loop-size
invariant-loop-size l = record {
  same : l.self ≡ l.initial.self;
  small : l.size ≤ 8192;
  agree : AgreeInside l.initial.self l.left l.right l.count;
  ends : l.size ≡ 0 → Ends l.initial.self (l.left + l.count) (l.right + l.count);
}

abbrev pub decreases-loop-size : goal.decreases-loop-size
decreases-loop-size l = 16384 * (l.len - l.count) + l.size
