use Rattle.std.proofs.Common.{sym, ap}
use Rattle.hwdb_writer.specs.Internal.Word.{word_of}
use Rattle.hwdb_writer.proofs.SpacedLemmas.{turned_round}
use Rattle.hwdb_writer.proofs.keyed.cmp_texts.Goals as goal

pub returns : goal.returns
returns c =
    turned_round c.a.inside.is_spaced c.b.inside.is_spaced c.a.inside.text.now c.b.inside.text.now _ _ _ _ c.if-a-b.false c.if-a.false (sym (ap word_of c.a.view_is)) (sym (ap word_of c.b.view_is)) c.cmp_spaced-2.ensures c.reverse.ensures
