use Rattle.std.proofs.Common.{length}
use Rattle.hwdb_near.proofs.prefixes.+closest_after.Given as goal

abbrev pub decreases-closest_after : goal.decreases-closest_after
decreases-closest_after l = length l.texts.now
