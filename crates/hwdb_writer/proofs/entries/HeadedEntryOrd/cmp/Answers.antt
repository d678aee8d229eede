use Rattle.std.proofs.Common.{arith, ap, Ordering}
use Rattle.std.specs.Ordering.{nat_cmp, ordering_then}
use Rattle.std.specs.Cmp.Lexicographic.{slice_cmp}
use Rattle.hwdb_writer.proofs.HeadLemmas.{less_head, greater_head, less_next, greater_next}
use Rattle.hwdb_writer.proofs.entries.HeadedEntryOrd.cmp.Goals as goal

pub returns-then-self-other : goal.returns-then-self-other
returns-then-self-other c =
    let a = c.self.inside.entry.now in
    let b = c.other.inside.entry.now in
    rw (← c.self.view_is, ← c.other.view_is) (ap (λ (r : Ordering). ordering_then r (slice_cmp nat_cmp a.key.now b.key.now)) (less_head _ _ _ _ c.self.invariant.first.is c.other.invariant.first.is c.self.invariant.first.bytes c.other.invariant.first.bytes (omega (arith, c.if-self-other.true))))

pub returns-then-self-other-2 : goal.returns-then-self-other-2
returns-then-self-other-2 c =
    let a = c.self.inside.entry.now in
    let b = c.other.inside.entry.now in
    rw (← c.self.view_is, ← c.other.view_is) (ap (λ (r : Ordering). ordering_then r (slice_cmp nat_cmp a.key.now b.key.now)) (greater_head _ _ _ _ c.self.invariant.first.is c.other.invariant.first.is c.self.invariant.first.bytes c.other.invariant.first.bytes (omega (arith, c.if-self-other-2.true))))

pub returns-then-self-other-3 : goal.returns-then-self-other-3
returns-then-self-other-3 c =
    let a = c.self.inside.entry.now in
    let b = c.other.inside.entry.now in
    rw (← c.self.view_is, ← c.other.view_is) (ap (λ (r : Ordering). ordering_then r (slice_cmp nat_cmp a.key.now b.key.now)) (less_next _ _ _ _ _ _ c.self.invariant c.other.invariant (omega (arith, c.if-self-other.false, c.if-self-other-2.false)) (omega (arith, c.if-self-other-3.true))))

pub returns-then-self-other-4 : goal.returns-then-self-other-4
returns-then-self-other-4 c =
    let a = c.self.inside.entry.now in
    let b = c.other.inside.entry.now in
    rw (← c.self.view_is, ← c.other.view_is) (ap (λ (r : Ordering). ordering_then r (slice_cmp nat_cmp a.key.now b.key.now)) (greater_next _ _ _ _ _ _ c.self.invariant c.other.invariant (omega (arith, c.if-self-other.false, c.if-self-other-2.false)) (omega (arith, c.if-self-other-4.true))))
