use Rattle.std.proofs.Common.{map, take}
use Rattle.hwdb_test.specs.Internal.{AreNamed}
use Rattle.hwdb_test.specs.Views.{line_at}
use Rattle.hwdb_test.proofs.holding.named.Given as goal

abbrev pub invariant-loop-line : goal.invariant-loop-line
invariant-loop-line l = AreNamed (map line_at (take l.line-index l.all)) l.keys
