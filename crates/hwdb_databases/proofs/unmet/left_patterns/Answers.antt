use Rattle.std.proofs.Common.{map}
use Rattle.hwdb_databases.specs.Views.{change_shown}
use Rattle.hwdb_databases.proofs.UnmetLemmas.{left_all, left_step}
use Rattle.hwdb_databases.proofs.unmet.left_patterns.Goals as goal

pub loop-device-init : goal.loop-device-init
loop-device-init c = left_all c.args.sides.old.now c.args.sides.new.now (map change_shown c.args.changes.now) c.in_ok-still.still c.in_ok-still.ensures

pub loop-device-preserved : goal.loop-device-preserved
loop-device-preserved c =
    left_step c.args.devices.now c.loop-device.device-index _ c.args.sides.old.now c.args.sides.new.now (map change_shown c.args.changes.now) c.loop-device.still c.take_met.new.still _
    c.loop-device-test.true c.in_ok-take_met.ensures c.in_ok-take_met-2.ensures c.loop-device.invariant
