use Rattle.std.proofs.lemmas.List.Filters.{dedup_is}
use Rattle.hwdb_writer.proofs.LastLemmas.{last_ascend, last_same, last_storable}
use Rattle.hwdb_writer.proofs.entries.last_of_each.Goals as goal

pub returns-clause-ascending : goal.returns-clause-ascending
returns-clause-ascending c =
    last_ascend c.args.all.now c.in_ok-order.order.items c.sort.new.self.items _ c.in_ok-order.ensures c.in_ok-sort.ensures.permutation c.in_ok-sort.ensures.sorted c.in_ok-sort.ensures.stable
    (dedup_is _ _ _ c.dedup.ensures.filtered)

pub returns-clause-same : goal.returns-clause-same
returns-clause-same c =
    last_same c.args.all.now c.in_ok-order.order.items c.sort.new.self.items _ c.in_ok-order.ensures c.in_ok-sort.ensures.permutation c.in_ok-sort.ensures.sorted c.in_ok-sort.ensures.stable
    (dedup_is _ _ _ c.dedup.ensures.filtered)

pub returns-clause-storable : goal.returns-clause-storable
returns-clause-storable c =
    last_storable c.args.all.now c.in_ok-order.order.items c.sort.new.self.items _ c.in_ok-order.ensures c.in_ok-sort.ensures.permutation c.in_ok-sort.ensures.sorted c.in_ok-sort.ensures.stable
    (dedup_is _ _ _ c.dedup.ensures.filtered)
