use Rattle.std.proofs.Common.{◌∙◌, ap, map, sym, take}
use Rattle.std.proofs.lemmas.List.{take-map}
use Rattle.std.proofs.lemmas.List.Filters.{dedup_is}
use Rattle.hwdb_near.specs.Internal.Ratings.{rated_of}
use Rattle.hwdb_near.proofs.NearestLemmas.{sorted_nearest}
use Rattle.hwdb_near.proofs.found.nearest_first.Goals as goal

pub returns : goal.returns
returns c =
    ap (map rated_of) c.truncate.ensures.items ∙ sym (take-map rated_of c.args.limit c.dedup.new.self.items)
    ∙ ap (take c.args.limit) (sorted_nearest c.args.all.items c.sort_unstable.new.self.items c.dedup.new.self.items c.sort_unstable.ensures.permutation c.sort_unstable.ensures.sorted (dedup_is _ _ _ c.dedup.ensures.filtered))
