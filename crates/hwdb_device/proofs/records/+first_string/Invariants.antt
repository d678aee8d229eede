use Rattle.std.proofs.Common.{length}
use Rattle.hwdb_device.proofs.records.+first_string.Given as goal

abbrev pub decreases-first_string : goal.decreases-first_string
decreases-first_string l = length l.found.now
