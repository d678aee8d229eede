use Rattle.std.proofs.Common.{◌≡◌, ◌≤◌, ◌<◌, ◌/◌, ℕ, slice_index}
use Rattle.hwdb_lookup.proofs.known.Known.need.Given as goal

abbrev pub invariant-loop-block : goal.invariant-loop-block
invariant-loop-block l = (k : ℕ) → l.from / 4096 ≤ k → k < l.block → slice_index l.self.present.now k ≡ 1
