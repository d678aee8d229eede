use Rattle.std.proofs.Common.{◌≤◌}
use Rattle.hwdb_reader.proofs.twins.ended.Given as goal

abbrev pub invariant-bytes : goal.invariant-bytes
invariant-bytes l = record { within : l.end ≤ l.n }

abbrev pub decreases-bytes : goal.decreases-bytes
decreases-bytes l = l.end
