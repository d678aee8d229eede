use Rattle.std.proofs.Common.{◌-◌, length}
use Rattle.hwdb_databases.specs.Internal.Spellings.{IsSpelling}
use Rattle.hwdb_databases.proofs.spelling.Spelling.read.Given as goal

abbrev pub invariant-segments : goal.invariant-segments
invariant-segments l = IsSpelling l.way l.self

abbrev pub decreases-segments : goal.decreases-segments
decreases-segments l = length l.way - length l.self.froms.items
