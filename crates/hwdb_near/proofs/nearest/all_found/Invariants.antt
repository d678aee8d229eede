use Rattle.std.proofs.Common.{◌≡◌, take, map}
use Rattle.hwdb_near.specs.Views.{pattern_at}
use Rattle.hwdb_near.specs.Internal.Ratings.{hitting, misses, rated_of}
use Rattle.hwdb_near.proofs.nearest.all_found.Given as goal

abbrev pub invariant-loop-at : goal.invariant-loop-at
invariant-loop-at l = record {
  matching : map pattern_at l.found.matching.items ≡ hitting l.fn.device (map pattern_at (take l.at-index l.patterns));
  nearest : map rated_of l.found.nearest.items ≡ misses l.fn.device (map pattern_at (take l.at-index l.patterns));
}
