use Rattle.std.proofs.Common.{add-one}
use Rattle.hwdb_system.proofs.NameLemmas.{name_step}
use Rattle.hwdb_system.proofs.left_out.name_set.Goals as goal

pub loop-name-preserved : goal.loop-name-preserved
loop-name-preserved c = rw add-one (
    name_step c.args.names.now c.loop-name.name-index c.name-item.result c.loop-name.set _ c.as_str.result c.loop-name-test.true c.name-item.is c.as_str.ensures.value c.loop-name.invariant
    c.in_ok-insert.ensures.updates.0)
