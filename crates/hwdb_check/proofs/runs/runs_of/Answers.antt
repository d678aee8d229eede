use Rattle.std.proofs.Common.{◌∙◌, ◌+◌, arith}
use Rattle.hwdb_check.proofs.RunLemmas.{runs_end}
use Rattle.hwdb_check.proofs.runs.runs_of.Goals as goal

pub returns : goal.returns
returns c =
    c.in_ok-push.ensures.items
    ∙ runs_end c.loop-byte.run.0 c.loop-byte.run.1 (c.loop-byte.byte-index + 1) c.loop-byte.runs.items c.args.bytes.now (omega (arith, c.loop-byte-test.false))
    ∙ c.loop-byte.invariant
