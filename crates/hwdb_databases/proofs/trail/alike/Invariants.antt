use Rattle.std.proofs.Common.{◌-◌}
use Rattle.hwdb_databases.specs.Internal.Trails.{AreAlike}
use Rattle.hwdb_databases.proofs.trail.alike.Given as goal

abbrev pub invariant-segments : goal.invariant-segments
invariant-segments l = AreAlike l.n l.old l.new

abbrev pub decreases-segments : goal.decreases-segments
decreases-segments l = l.most - l.n
