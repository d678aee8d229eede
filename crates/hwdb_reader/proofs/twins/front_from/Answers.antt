use Rattle.std.proofs.Common.{arith}
use Rattle.hwdb_reader.proofs.SharedLemmas.{step_on}
use Rattle.hwdb_reader.proofs.twins.front_from.Goals as goal

pub steps-preserved : goal.steps-preserved
steps-preserved c = record {
  within = omega arith;
  same = step_on c.args.a.now c.args.b.now c.steps.n c.args.step c.steps.invariant.same (c.agree.ensures c.if-agree.true);
}
