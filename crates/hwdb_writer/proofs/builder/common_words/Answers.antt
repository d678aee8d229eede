use Rattle.std.proofs.Common.{arith}
use Rattle.hwdb_writer.proofs.MeetingLemmas.{past_word}
use Rattle.hwdb_writer.proofs.builder.common_words.Goals as goal

pub loop-n-preserved : goal.loop-n-preserved
loop-n-preserved c =
    past_word c.loop-n.n c.args.a.now c.args.b.now c.loop-n.invariant (omega (arith, c.loop-n-test.true, c.min-both.ensures)) (omega (arith, c.loop-n-test.true, c.min-both.ensures)) c.if-same_words.ensures
