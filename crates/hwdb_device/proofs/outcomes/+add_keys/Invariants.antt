use Rattle.std.proofs.Common.{length}
use Rattle.hwdb_device.proofs.outcomes.+add_keys.Given as goal

abbrev pub decreases-add_keys : goal.decreases-add_keys
decreases-add_keys l = length l.gifts.now
