use Rattle.std.proofs.Common.{◌∙◌, ap, sym, arith, length}
use Rattle.std.specs.Ordering.{is_eq}
use Rattle.std.specs.Cmp.Lexicographic.{texts_ties}
use Rattle.hwdb_writer.specs.Internal.Word.{Word}
use Rattle.hwdb_writer.proofs.HeadLemmas.{same_head}
use Rattle.hwdb_writer.proofs.SpacedLemmas.{is_short, short_lengths}
use Rattle.hwdb_writer.proofs.keyed.KeyedStrPartialEq.eq.Goals as goal

pub returns-then-len-le-HEAD-2 : goal.returns-then-len-le-HEAD-2
returns-then-len-le-HEAD-2 c =
    let short_self = is_short _ _ c.len.ensures c.if-len-le-HEAD.true in
    let short_other = is_short _ _ c.len-then-len-le-HEAD.ensures c.if-len-le-HEAD-2.true in
    c.is_eq.ensures
    ∙ ap is_eq (short_lengths _ _ _ _ _ c.len-then-len-le-HEAD-2.ensures (omega (arith, short_self, c.len-then-len-le-HEAD-2.ensures)) c.len-then-len-le-HEAD-2-2.ensures (omega (arith, short_other, c.len-then-len-le-HEAD-2-2.ensures)) c.cmp.ensures
    ∙ rw (← c.self.view_is, ← c.other.view_is) (same_head _ _ _ _ c.self.invariant.is c.other.invariant.is c.self.invariant.bytes c.other.invariant.bytes (omega (arith, c.if-self-other.false)) (omega (arith, short_self, ap (λ (w : Word). length w.word) c.self.view_is)) (omega (arith, short_other, ap (λ (w : Word). length w.word) c.other.view_is))))
    ∙ sym (texts_ties c.args.self.now.word c.args.other.now.word)

pub returns : goal.returns
returns c = c.is_eq-2.ensures ∙ ap is_eq c.cmp_texts.ensures ∙ sym (texts_ties c.args.self.now.word c.args.other.now.word)
