use Rattle.std.proofs.Common.{eq-eqb, ne_eqb}
use Rattle.hwdb_check.proofs.RunLemmas.{goes_on, begins}
use Rattle.hwdb_check.proofs.runs.step.Goals as goal

pub returns-then-byte-run : goal.returns-then-byte-run
returns-then-byte-run c more = goes_on c.args.run.0 c.args.run.1 c.args.byte c.args.runs.now.items more (eq-eqb _ _ c.if-byte-run.true)

pub returns : goal.returns
returns c more =
    begins c.args.run.0 c.args.run.1 c.args.byte c.args.runs.now.items more c.push.new.self.items (ne_eqb _ _ c.if-byte-run.false) c.in_ok-push.ensures.items
