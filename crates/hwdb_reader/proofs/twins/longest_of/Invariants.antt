use Rattle.std.proofs.Common.{All, List, ℕ}
use Rattle.hwdb_reader.specs.Internal.Shared.{AreShared}
use Rattle.hwdb_reader.specs.declared.twins.Stretch.{Stretch}
use Rattle.hwdb_reader.proofs.twins.longest_of.Given as goal

abbrev pub invariant-loop-stretch : goal.invariant-loop-stretch
invariant-loop-stretch l = (a b : List ℕ) → All (λ (s : Stretch). AreShared a b s.old s.new s.count) l.stretches → AreShared a b l.longest.old l.longest.new l.longest.count
