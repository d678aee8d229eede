use Rattle.std.proofs.Common.{arith}
use Rattle.hwdb_check.proofs.AscendLemmas.{ascended}
use Rattle.hwdb_check.proofs.replacements.ascend.Goals as goal

pub returns : goal.returns
returns c = λ e. ascended c.args.all.now c.loop-at.at (omega arith) c.loop-at.invariant.pairs
