use Rattle.std.proofs.Common.{◌≡◌, ℕ, suc, length, get_or, false, true}
use Rattle.hwdb_pattern.proofs.opens.shifted.Given as goal

abbrev pub invariant-loop-k : goal.invariant-loop-k
invariant-loop-k l = record {
  size : length l.next ≡ 12;
  first : get_or l.next 0 false ≡ l.first;
  others : (k : ℕ) → get_or l.next (suc k) false ≡ true → get_or l.table k false ≡ true;
}
