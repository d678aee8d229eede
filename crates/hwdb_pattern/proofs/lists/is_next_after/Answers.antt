use Rattle.std.proofs.Common.{arith}
use Rattle.hwdb_spec.specs.Patterns.{literal}
use Rattle.hwdb_pattern.proofs.ListLemmas.{none_taken}
use Rattle.hwdb_pattern.proofs.lists.is_next_after.Goals as goal

pub returns : goal.returns
returns c = λ e. none_taken (literal c.args.byte) c.args.device.now c.args.lengths.now (λ k h. c.loop-n.invariant k (omega (arith, h)))
