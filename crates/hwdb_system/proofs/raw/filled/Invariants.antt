use Rattle.std.proofs.Common.{◌≤◌, ◌-◌, length}
use Rattle.hwdb_system.proofs.raw.filled.Given as goal

abbrev pub invariant-filling : goal.invariant-filling
invariant-filling g l = l.n ≤ length l.buf

abbrev pub decreases-filling : goal.decreases-filling
decreases-filling g l = length l.buf - l.n
