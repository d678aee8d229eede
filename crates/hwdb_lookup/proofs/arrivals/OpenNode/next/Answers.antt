use Rattle.std.proofs.Common.{◌≡◌, ◌<◌, ℕ, refl, arith}
use Rattle.hwdb_lookup.proofs.RestLemmas.{rest_ends, rest_passes, rest_next}
use Rattle.hwdb_lookup.proofs.arrivals.OpenNode.next.Goals as goal

below_all : (done all children : ℕ) → all ≡ children → done < all → done < children
below_all done all children is lt = omega (arith, is, lt)

pub loop-done-preserved : goal.loop-done-preserved
loop-done-preserved c file from w m rest =
    let o = c.args.self.now in
    let lt = below_all _ _ _ c.children-children.ensures c.loop-done-test.true in
    let rest = c.loop-done.invariant file from w m rest in
    let there = c.child-child.ensures file rest.head in
    let byte = there.0 in
    let place = there.1 in
    rest_passes file o c.loop-done.done from w c.child-child.result.byte c.child-child.result.off lt byte place
    c.path_laws.ensures.matched c.path_laws.ensures.below (c.may_take.ensures c.if-may_take.false o.path.items c.requires) rest

pub returns-then-may_take-clause-next : goal.returns-then-may_take-clause-next
returns-then-may_take-clause-next c file from w m rest =
    let o = c.args.self.now in
    let lt = below_all _ _ _ c.children-children.ensures c.loop-done-test.true in
    let rest = c.loop-done.invariant file from w m rest in
    let there = c.child-child.ensures file rest.head in
    let byte = there.0 in
    let place = there.1 in
    rest_next file o c.loop-done.done from w c.child-child.result.byte c.child-child.result.off lt byte place
    _ refl refl refl rest

pub returns-clause-next : goal.returns-clause-next
returns-clause-next c file from w m rest =
    let o = c.args.self.now in
    rest_ends file o c.loop-done.done from w (c.loop-done.invariant file from w m rest) (let t = c.loop-done-test.false in let n = c.children-children.ensures in omega (arith, t, n))
