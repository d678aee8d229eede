use Rattle.std.proofs.Common.{◌+◌, ◌*◌, ◌<◌, ◌≢◌, ◌≤◌, length, slice_index, ℕ}
use Rattle.hwdb_lookup.proofs.seen.Seen.part.Given as goal

abbrev pub invariant-loop-k : goal.invariant-loop-k
invariant-loop-k l = (j : ℕ) → j < l.k → j * 4096 + 4096 ≤ length l.self.bytes.now → slice_index l.self.places.now j ≢ l.from
