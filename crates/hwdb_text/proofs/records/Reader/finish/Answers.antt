use Rattle.std.proofs.Common.{◌∙◌, ◌++◌, ap}
use Rattle.hwdb_spec.specs.Records.{by_line}
use Rattle.hwdb_text.proofs.HeldLemmas.{finished}
use Rattle.hwdb_text.proofs.FaultOrderLemmas.{in_order_is}
use Rattle.hwdb_text.proofs.DerivedOrderLemmas.{sorted_by_number}
use Rattle.hwdb_text.proofs.records.Reader.finish.Goals as goal

pub returns-clause-assignments : goal.returns-clause-assignments
returns-clause-assignments c = λ o whole h.
    let f = finished o whole c.args.self c.end.new.self h c.in_ok-end.ensures.spoilt c.in_ok-end.ensures.closed in f.0

pub returns-clause-faults : goal.returns-clause-faults
returns-clause-faults c = λ o whole h.
    let f = finished o whole c.args.self c.end.new.self h c.in_ok-end.ensures.spoilt c.in_ok-end.ensures.closed in
    in_order_is _ c.sort.new.self.items c.in_ok-sort.ensures.permutation (sorted_by_number c.sort.new.self.items c.in_ok-sort.ensures.sorted)
    ∙ ap by_line (c.in_ok-extend_from_slice.ensures.items ∙ ap (λ fs. c.end.new.self.spoilt.items ++ fs) c.deref.ensures.value ∙ f.1)
