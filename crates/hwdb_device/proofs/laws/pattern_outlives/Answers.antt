use Rattle.hwdb_device.proofs.OutlivesLemmas.{outlives_bios, outlives_port}
use Rattle.hwdb_device.proofs.laws.pattern_outlives.Goals as goal

pub returns : goal.returns
returns c = record { port = outlives_port; bios = outlives_bios }
