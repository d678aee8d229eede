use Rattle.std.proofs.Common.{false}
use Rattle.hwdb_spec.specs.Patterns.{admits_byte, token_at}
use Rattle.hwdb_pattern.specs.Internal.Tables.{SomeAt, passes_at}
use Rattle.hwdb_pattern.proofs.tables.has_one_of.Given as goal

abbrev pub invariant-loop-i : goal.invariant-loop-i
invariant-loop-i l = SomeAt (passes_at (admits_byte (token_at l.text)) l.bytes l.table) l.i false
