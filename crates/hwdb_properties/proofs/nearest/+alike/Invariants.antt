use Rattle.std.proofs.Common.{length}
use Rattle.hwdb_properties.proofs.nearest.+alike.Given as goal

abbrev pub decreases-alike : goal.decreases-alike
decreases-alike l = length l.one.now
