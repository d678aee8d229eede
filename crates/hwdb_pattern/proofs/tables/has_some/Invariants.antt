use Rattle.std.proofs.Common.{false, get_or}
use Rattle.hwdb_pattern.specs.Internal.Tables.{SomeAt}
use Rattle.hwdb_pattern.proofs.tables.has_some.Given as goal

abbrev pub invariant-loop-i : goal.invariant-loop-i
invariant-loop-i l = SomeAt (λ k. get_or l.table k false) l.i false

abbrev pub invariant-loop-i-2 : goal.invariant-loop-i-2
invariant-loop-i-2 l = SomeAt (λ k. get_or l.table k false) l.i l.has
