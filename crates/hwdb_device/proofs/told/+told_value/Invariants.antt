use Rattle.std.proofs.Common.{length}
use Rattle.hwdb_device.proofs.told.+told_value.Given as goal

abbrev pub decreases-told_value : goal.decreases-told_value
decreases-told_value l = length l.told.now
