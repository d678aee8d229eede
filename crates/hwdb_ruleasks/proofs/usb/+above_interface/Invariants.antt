use Rattle.std.proofs.Common.{length}
use Rattle.hwdb_ruleasks.proofs.usb.+above_interface.Given as goal

abbrev pub decreases-above_interface : goal.decreases-above_interface
decreases-above_interface l = length l.parents.now
