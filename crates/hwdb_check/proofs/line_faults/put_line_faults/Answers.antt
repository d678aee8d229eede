use Rattle.hwdb_spec_commands.specs.Findings.{one_fault}
use Rattle.hwdb_check.proofs.FollowLemmas.{told_before}
use Rattle.hwdb_check.proofs.line_faults.put_line_faults.Goals as goal

pub returns-then-fault-line-clause-found : goal.returns-then-fault-line-clause-found
returns-then-fault-line-clause-found c =
    told_before c.args.faults.now c.loop-next.next _ c.args.line.now.number c.loop-next-test.true (one_fault c.args.line.now.path.now c.args.line.now.text.now) _ _
    c.if-fault-line.true c.loop-next.invariant.from c.loop-next.invariant.found
