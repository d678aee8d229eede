use Rattle.std.proofs.Common.{◌≡◌, length, map, take}
use Rattle.hwdb_pattern.specs.Fronts.{token_of}
use Rattle.hwdb_pattern.specs.Internal.FirstTokens.{AreAfter}
use Rattle.hwdb_pattern.specs.Internal.Met.{lengths_of}
use Rattle.hwdb_pattern.proofs.fronts.front_count.Given as goal

abbrev pub invariant-loop-text : goal.invariant-loop-text
invariant-loop-text l = record {
  after : AreAfter (map token_of (take l.text-index l.tokens)) l.device l.met;
  some : length (lengths_of l.met) ≡ 0 → ⊥;
  count : l.count ≡ l.text-index;
}
