use Rattle.hwdb_system.proofs.LineLemmas.{joined_next}
use Rattle.hwdb_system.proofs.refusals.whole.Goals as goal

pub joining-preserved : goal.joining-preserved
joining-preserved c =
    joined_next c.args.name c.args.parts.now c.joining.i _ _ _ c.joining-test.true c.joining.invariant c.in_ok-push_part.ensures
