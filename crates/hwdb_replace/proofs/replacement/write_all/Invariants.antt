use Rattle.std.proofs.Common.{◌≡◌, ◌≤◌, ◌-◌, length, take}
use Rattle.hwdb_spec.specs.Store.{Written}
use Rattle.hwdb_replace.specs.Internal.{Fills}
use Rattle.hwdb_replace.proofs.replacement.write_all.Given as goal

abbrev pub invariant-loop-written : goal.invariant-loop-written
invariant-loop-written g l = record {
  within : l.written ≤ length l.bytes;
  fills : Fills g.S.Store l.initial.store l.store;
  written : g.S.Store.tells_own → Written (g.S.Store.part l.initial.store) (take l.written l.bytes)
      (g.S.Store.seen l.initial.store) (g.S.Store.seen l.store);
  same : g.S.Store.failures l.store ≡ g.S.Store.failures l.initial.store;
}

abbrev pub decreases-loop-written : goal.decreases-loop-written
decreases-loop-written g l = length l.bytes - l.written
