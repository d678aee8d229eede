use Rattle.std.proofs.Common.{◌∙◌, ◌-◌, ap, arith, sym}
use Rattle.hwdb_spec_commands.specs.Inputs.{after_words}
use Rattle.hwdb_rules.proofs.BitLemmas.{words_end, words_step}
use Rattle.hwdb_rules.proofs.inputs.after_words.Goals as goal

pub loop-more-preserved : goal.loop-more-preserved
loop-more-preserved c =
    ap (after_words (c.loop-more.more - 1)) c.after-left.ensures
    ∙ sym (words_step c.loop-more.more c.loop-more.left.now (omega (arith, c.loop-more-test.true)))
    ∙ c.loop-more.invariant

pub returns : goal.returns
returns c = sym (words_end c.loop-more.more c.loop-more.left.now (omega (arith, c.loop-more-test.false))) ∙ c.loop-more.invariant
