use Rattle.std.proofs.Common.{arith, ap, length, ◌∙◌}
use Rattle.hwdb_writer.specs.Internal.Word.{Word}
use Rattle.hwdb_writer.proofs.HeadLemmas.{less_head, greater_head, same_head}
use Rattle.hwdb_writer.proofs.SpacedLemmas.{is_short, short_lengths}
use Rattle.hwdb_writer.proofs.keyed.KeyedStrOrd.cmp.Goals as goal

pub returns-then-self-other : goal.returns-then-self-other
returns-then-self-other c = rw (← c.self.view_is, ← c.other.view_is) (less_head _ _ _ _ c.self.invariant.is c.other.invariant.is c.self.invariant.bytes c.other.invariant.bytes (omega (arith, c.if-self-other.true)))

pub returns-then-self-other-2 : goal.returns-then-self-other-2
returns-then-self-other-2 c = rw (← c.self.view_is, ← c.other.view_is) (greater_head _ _ _ _ c.self.invariant.is c.other.invariant.is c.self.invariant.bytes c.other.invariant.bytes (omega (arith, c.if-self-other-2.true)))

pub returns-then-len-le-HEAD-2 : goal.returns-then-len-le-HEAD-2
returns-then-len-le-HEAD-2 c =
    let short_self = is_short _ _ c.len.ensures c.if-len-le-HEAD.true in
    let short_other = is_short _ _ c.len-then-len-le-HEAD.ensures c.if-len-le-HEAD-2.true in
    short_lengths _ _ _ _ _ c.len-then-len-le-HEAD-2.ensures (omega (arith, short_self, c.len-then-len-le-HEAD-2.ensures)) c.len-then-len-le-HEAD-2-2.ensures (omega (arith, short_other, c.len-then-len-le-HEAD-2-2.ensures)) c.cmp.ensures
    ∙ rw (← c.self.view_is, ← c.other.view_is) (same_head _ _ _ _ c.self.invariant.is c.other.invariant.is c.self.invariant.bytes c.other.invariant.bytes (omega (arith, c.if-self-other.false, c.if-self-other-2.false))
    (omega (arith, short_self, ap (λ (w : Word). length w.word) c.self.view_is)) (omega (arith, short_other, ap (λ (w : Word). length w.word) c.other.view_is)))
