use Rattle.hwdb_check.proofs.ReplaceLemmas.{last_step}
use Rattle.hwdb_check.proofs.replacements.last_lines.Goals as goal

pub loop-given-preserved : goal.loop-given-preserved
loop-given-preserved c =
    last_step c.args.all.now c.loop-given.given-index _ c.loop-given.last c.put_last.new.last c.loop-given-test.true c.loop-given.invariant c.in_ok-put_last.ensures
