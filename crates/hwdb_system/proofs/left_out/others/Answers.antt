use Rattle.std.proofs.Common.{add-one, not}
use Rattle.hwdb_spec.specs.Folders.{lists}
use Rattle.hwdb_system.proofs.NameLemmas.{kept_more}
use Rattle.hwdb_system.proofs.left_out.others.Goals as goal

pub loop-name-preserved : goal.loop-name-preserved
loop-name-preserved c = rw add-one (λ gone is.
    kept_more (λ name. not (lists name gone)) c.args.names.now c.loop-name.name-index c.name-item.result _ _ c.loop-name-test.true c.name-item.is
    (c.loop-name.invariant gone is) (c.in_ok-push_other.ensures gone is))
