use Rattle.std.proofs.Common.{eqb}
use Rattle.hwdb_pattern.specs.Internal.Tables.{SomeAt, passes_at}
use Rattle.hwdb_pattern.proofs.tables.has_byte.Given as goal

abbrev pub invariant-loop-i : goal.invariant-loop-i
invariant-loop-i l = SomeAt (passes_at (λ b. eqb b l.byte) l.bytes l.table) l.i l.has
