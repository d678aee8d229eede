use Rattle.std.proofs.Common.{map, take}
use Rattle.hwdb_pattern.specs.Fronts.{token_of}
use Rattle.hwdb_pattern.specs.Internal.FirstTokens.{AreAfter}
use Rattle.hwdb_pattern.proofs.fronts.met_by.Given as goal

abbrev pub invariant-loop-text : goal.invariant-loop-text
invariant-loop-text l = AreAfter (map token_of (take l.text-index l.tokens)) l.device l.met
