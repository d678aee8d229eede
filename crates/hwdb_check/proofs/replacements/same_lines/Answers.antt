use Rattle.hwdb_check.proofs.ReplaceLemmas.{same_step}
use Rattle.hwdb_check.proofs.replacements.same_lines.Goals as goal

pub loop-given-preserved : goal.loop-given-preserved
loop-given-preserved c =
    same_step c.args.all.now c.loop-given.given-index _ c.loop-given.same c.put_same.new.same c.loop-given-test.true c.loop-given.invariant c.in_ok-put_same.ensures
