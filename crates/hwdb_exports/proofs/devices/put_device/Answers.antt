use Rattle.std.specs.Prelude.{filter_map}
use Rattle.std.proofs.Common.{◌++◌}
use Rattle.hwdb_spec_commands.specs.Exports as spec
use Rattle.hwdb_exports.specs.Internal.{of_driver, of_subsystem, own_spots}
use Rattle.hwdb_exports.specs.Views.{exported}
use Rattle.hwdb_exports.proofs.SetLemmas.{ok_both}
use Rattle.hwdb_exports.proofs.devices.put_device.Goals as goal

pub returns : goal.returns
returns c =
    let d = exported c.args.device.now in
    let files = filter_map (spec.attribute_spot d.path d.lines) spec.export_rules in
    ok_both (own_spots d) (of_subsystem d ++ (of_driver d ++ files)) c.args.spots.now c.put_folder.new.spots c.put_attributes.new.spots c.put_attributes.result c.in_ok-put_folder.ensures
    (ok_both (of_subsystem d) (of_driver d ++ files) c.put_folder.new.spots c.put_own_subsystem.new.spots c.put_attributes.new.spots c.put_attributes.result c.in_ok-put_own_subsystem.ensures
    (ok_both (of_driver d) files c.put_own_subsystem.new.spots c.put_own_driver.new.spots c.put_attributes.new.spots c.put_attributes.result c.in_ok-put_own_driver.ensures c.put_attributes.ensures))
