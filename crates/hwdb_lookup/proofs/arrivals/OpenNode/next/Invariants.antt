use Rattle.std.proofs.Common.{◌-◌, List, ℕ}
use Rattle.hwdb_spec.specs.Assignment.{Assignment}
use Rattle.hwdb_lookup.specs.Internal.Parts.{MayBeOf}
use Rattle.hwdb_lookup.specs.Internal.Descents.{Rest}
use Rattle.hwdb_lookup.proofs.arrivals.OpenNode.next.Given as goal

abbrev pub invariant-loop-done : goal.invariant-loop-done
invariant-loop-done l =
    (file : List ℕ) (from : ℕ) (w : List Assignment) → MayBeOf l.self.node.known file → Rest file l.self l.self.done from w → Rest file l.self l.done from w

abbrev pub decreases-loop-done : goal.decreases-loop-done
decreases-loop-done l = l.children - l.done
