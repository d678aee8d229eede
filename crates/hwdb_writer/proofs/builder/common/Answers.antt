use Rattle.std.proofs.Common.{arith}
use Rattle.hwdb_writer.proofs.builder.common.Goals as goal

pub returns-else-a-n-clause-meeting : goal.returns-else-a-n-clause-meeting
returns-else-a-n-clause-meeting c = record { alike = c.loop-n.invariant.alike; apart = λ f s. c.if-a-n.false }

pub returns-else-n-b-clause-meeting : goal.returns-else-n-b-clause-meeting
returns-else-n-b-clause-meeting c = record { alike = c.loop-n.invariant.alike; apart = λ f s e. omega (arith, s) }

pub returns-after-loop-n-clause-meeting : goal.returns-after-loop-n-clause-meeting
returns-after-loop-n-clause-meeting c = record { alike = c.loop-n.invariant.alike; apart = λ f s e. omega (arith, f) }
