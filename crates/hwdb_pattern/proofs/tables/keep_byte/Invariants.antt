use Rattle.std.proofs.Common.{◌≡◌, ◌≤◌, ◌<◌, ℕ, false, get_or, eqb, length}
use Rattle.hwdb_pattern.specs.Internal.Tables.{passes_at}
use Rattle.hwdb_pattern.proofs.tables.keep_byte.Given as goal

abbrev pub invariant-loop-i : goal.invariant-loop-i
invariant-loop-i l = record {
  size : length l.table ≡ length l.fn.table;
  done : (k : ℕ) → k < l.i → get_or l.table k false ≡ passes_at (λ b. eqb b l.byte) l.bytes l.fn.table k;
  rest : (k : ℕ) → l.i ≤ k → get_or l.table k false ≡ get_or l.fn.table k false;
}
