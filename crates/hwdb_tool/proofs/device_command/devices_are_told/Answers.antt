use Rattle.hwdb_tool.proofs.device_command.devices_are_told.Goals as goal

pub returns : goal.returns
returns g c = g.met.D.Machine.told
