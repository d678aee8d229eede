use Rattle.hwdb_check.proofs.PlainLemmas.{steady_end, steady_step}
use Rattle.hwdb_check.proofs.plain_files.are_plain.Goals as goal

pub loop-given-preserved : goal.loop-given-preserved
loop-given-preserved c =
    steady_step c.args.all.now c.loop-given.given-index c.loop-given.above _ _ c.loop-given-test.true (c.in_ok-is_plain_given.ensures.below c.if-not-branch.false)
    (c.in_ok-is_plain_given.ensures.plain c.if-not-branch.false) c.loop-given.invariant

pub returns : goal.returns
returns c = λ e. steady_end c.args.all.now c.loop-given.given-index c.loop-given.above _ c.loop-given-test.false c.loop-given.invariant
