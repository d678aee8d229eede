use Rattle.std.proofs.Common.{◌≤◌, drop, length, map}
use Rattle.hwdb_check.specs.Among.{AreSoFar, now_at, number_mark}
use Rattle.hwdb_check.specs.Found.{finds}
use Rattle.hwdb_check.proofs.among.are_among.Given as goal

abbrev pub invariant-loop-known : goal.invariant-loop-known
invariant-loop-known l = record {
  within : l.met ≤ length l.now;
  so_far : AreSoFar (map number_mark (finds l.before)) (now_at l.now) (now_at (drop l.met l.now)) (map number_mark (finds (drop l.known-index l.before)));
}
