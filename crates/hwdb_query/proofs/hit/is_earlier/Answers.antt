use Rattle.std.proofs.Common.{◌∙◌, ap, sym}
use Rattle.std.specs.Ordering.{is_lt, ordering_then}
use Rattle.hwdb_query.proofs.HalvingLemmas.{origins_first}
use Rattle.hwdb_query.proofs.hit.is_earlier.Goals as goal

pub returns : goal.returns
returns c = λ is x y ix iy.
    let numbers = c.then.ensures ∙ (λ i. ordering_then (c.cmp.ensures i) (c.cmp-2.ensures i)) in
    origins_first c.args.a c.args.b x y (ap is_lt (sym numbers) ∙ sym c.is_lt.ensures ∙ is) ix iy
