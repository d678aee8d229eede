use Rattle.std.proofs.lemmas.List.Filters.{dedup_is}
use Rattle.hwdb_near.proofs.NearestLemmas.{sorted_places}
use Rattle.hwdb_near.proofs.found.by_file_and_line.Goals as goal

pub returns : goal.returns
returns c =
    sorted_places c.args.all.items c.sort_unstable.new.self.items c.dedup.new.self.items c.sort_unstable.ensures.permutation c.sort_unstable.ensures.sorted
    (dedup_is _ _ _ c.dedup.ensures.filtered)
