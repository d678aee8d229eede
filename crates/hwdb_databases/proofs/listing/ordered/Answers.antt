use Rattle.std.proofs.Common.{◌∙◌, rules}
use Rattle.std.proofs.lemmas.Fn.{always_returns_same}
use Rattle.std.proofs.lemmas.List.Sorted.{ranks_by}
use Rattle.std.specs.Ordering.{is_lt}
use Rattle.hwdb_spec.specs.Assignment.{assignment_cmp}
use Rattle.hwdb_databases.specs.Internal.Holding.{slot_in}
use Rattle.hwdb_databases.proofs.OrderedLemmas.{sorted_is_dumped}
use Rattle.hwdb_databases.proofs.listing.ordered.Goals as goal
use Rattle.hwdb_spec.specs.Lemmas.Places.{assignment_total}

pub returns : goal.returns
returns c =
    let of = slot_in c.args.patterns.now in
    let up = c.sort_unstable_by.ensures.sorted (λ x y. is_lt (assignment_cmp (of x) (of y))) (ranks_by assignment_total of)
    (always_returns_same _ _ _ (λ a r g called. (search rules, search rules))) in
    sorted_is_dumped of c.args.db.now c.in_ok-slots.slots.items c.sort_unstable_by.new.self.items c.root-root.ensures.tree (c.in_ok-slots.ensures ∙ c.requires)
    c.sort_unstable_by.ensures.permutation up
