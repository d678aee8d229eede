use Rattle.std.proofs.Common.{arith}
use Rattle.std.proofs.lemmas.List.Filters.{dedup_is}
use Rattle.hwdb_databases.proofs.DifferentLemmas.{different_are}
use Rattle.hwdb_databases.proofs.summary.count_different.Goals as goal

pub returns : goal.returns
returns c =
    let left = c.without_repeats-ordered.result.items in
    let few = c.without_repeats-ordered.ensures in
    let same = different_are (λ t. t.now) left c.sort.new.self.items c.dedup.new.self.items c.in_ok-sort.ensures.permutation c.in_ok-sort.ensures.sorted (dedup_is _ _ _ c.dedup.ensures.filtered) in
    let read = c.len.ensures in
    let size = c.dedup.new.self.ok in
    omega (arith, few, same, read, size)
