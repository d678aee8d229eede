use Rattle.std.proofs.Common.{◌≡◌, ap, subst, reverse, arith, List, [], IfNone}
use Rattle.hwdb_databases.specs.Internal.Walks.{deepest_to_come}
use Rattle.hwdb_databases.specs.declared.walk.OpenVisit.{OpenVisit}
use Rattle.hwdb_databases.proofs.depths.depth_of.Goals as goal

pub returns : goal.returns
returns c =
    let w = c.nodes.walk in
    let empty : w.stack.items ≡ [] = subst (λ at. IfNone at (w.stack.items ≡ [])) c.in_default.is c.nodes.invariant.end in
    let deep_none : deepest_to_come (reverse w.stack.items) ≡ 0 = ap (λ (b : List OpenVisit). deepest_to_come (reverse b)) empty in
    let deepest = c.nodes.invariant.walk.deepest in
    omega (arith, deep_none, deepest)
