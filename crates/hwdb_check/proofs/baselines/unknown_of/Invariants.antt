use Rattle.std.proofs.Common.{drop, map}
use Rattle.hwdb_check.specs.Found.{finds}
use Rattle.hwdb_check.proofs.CountLemmas.{ArePutUpTo}
use Rattle.hwdb_check.proofs.baselines.unknown_of.Given as goal

abbrev pub invariant-loop-one : goal.invariant-loop-one
invariant-loop-one l = ArePutUpTo (map (λ t. t.items) l.known) (finds l.found) (finds l.new.items) (finds (drop l.one-index l.found)) l.left
