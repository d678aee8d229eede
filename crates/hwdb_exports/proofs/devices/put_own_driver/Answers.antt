use Rattle.hwdb_spec_commands.specs.Exports as spec
use Rattle.hwdb_exports.specs.Views.{exported}
use Rattle.hwdb_exports.proofs.SetLemmas.{set_none_of}
use Rattle.hwdb_exports.proofs.devices.put_own_driver.Goals as goal

pub returns-in-None : goal.returns-in-None
returns-in-None c = set_none_of (spec.driver_spots (exported c.args.device.now).path) _ c.args.spots.now c.in-None.ensures
