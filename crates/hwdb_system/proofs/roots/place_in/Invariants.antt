use Rattle.std.proofs.Common.{◌≡◌}
use Rattle.hwdb_system.proofs.roots.place_in.Given as goal

abbrev pub invariant-loop : goal.invariant-loop
invariant-loop g l = l.place.root.now ≡ l.fn.root
