use Rattle.std.proofs.Common.{arith}
use Rattle.hwdb_forms.proofs.WalkLemmas.{no_mark, some_met}
use Rattle.hwdb_forms.proofs.walks.is_none.Goals as goal

pub returns-then-mark-clause-some : goal.returns-then-mark-clause-some
returns-then-mark-clause-some c = λ t ls e l. some_met c.args.marks.now ls c.loop-mark.mark-index _ (omega arith) c.if-mark.true e l

pub returns-clause-none : goal.returns-clause-none
returns-clause-none c = λ t. no_mark c.args.marks.now c.loop-mark.mark-index c.loop-mark-test.false c.loop-mark.invariant
