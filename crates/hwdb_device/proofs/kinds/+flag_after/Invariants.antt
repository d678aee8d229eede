use Rattle.std.proofs.Common.{length}
use Rattle.hwdb_device.proofs.kinds.+flag_after.Given as goal

abbrev pub decreases-flag_after : goal.decreases-flag_after
decreases-flag_after l = length l.found.now
