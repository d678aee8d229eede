use Rattle.std.proofs.Common.{◌≡◌, ◌++◌, map}
use Rattle.hwdb_query.specs.Views.{pairs_bytes}
use Rattle.hwdb_query.proofs.ByKeyLemmas.{pair_of}
use Rattle.hwdb_query.proofs.last_hits.LastHits.pairs.Given as goal

abbrev pub invariant-loop-key : goal.invariant-loop-key
invariant-loop-key l = pairs_bytes l.pairs.items ++ map pair_of l.key-iterator ≡ map pair_of l.fn.self.hits.entries
