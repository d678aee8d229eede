use Rattle.std.proofs.Common.{ap, ◌∙◌}
use Rattle.std.proofs.lemmas.List.Filters.{dedup_is}
use Rattle.hwdb_spec.specs.Assignment.{ascending}
use Rattle.hwdb_databases.proofs.DifferentLemmas.{ordered_are}
use Rattle.hwdb_databases.proofs.ordering.in_order.Goals as goal

pub returns : goal.returns
returns c =
    ordered_are (λ t. t.now) c.in_ok-ordered.ordered.items c.sort.new.self.items c.dedup.new.self.items c.in_ok-sort.ensures.permutation c.in_ok-sort.ensures.sorted (dedup_is _ _ _ c.dedup.ensures.filtered)
    ∙ ap ascending c.in_ok-ordered.ensures
