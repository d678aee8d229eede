use Rattle.hwdb_check.proofs.CalmLemmas.{file_calm, none_left}
use Rattle.hwdb_check.proofs.repeats.is_calm.Goals as goal

pub returns : goal.returns
returns c = λ e. file_calm c.args.bytes.now (none_left c.loop-text.after _ _ c.in-None.ensures.steps.0 c.loop-text.invariant)
