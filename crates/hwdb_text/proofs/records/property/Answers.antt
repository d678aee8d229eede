use Rattle.std.proofs.Common.{[], sym, ◌∙◌, ◌++◌, ap, map, append-nil, ◌+◌}
use Rattle.std.proofs.lemmas.List.{take_rest}
use Rattle.hwdb_text.specs.Internal.Contents.{line}
use Rattle.hwdb_text.specs.Views.{origin, given_in, text_of}
use Rattle.hwdb_text.proofs.ByteLemmas.{without_equals, without_key, with_key}
use Rattle.hwdb_text.proofs.HeldLemmas.{on_ok}
use Rattle.hwdb_text.proofs.records.property.Goals as goal

pub returns-then-equals-body-clause-assignments : goal.returns-then-equals-body-clause-assignments
returns-then-equals-body-clause-assignments c = λ o.
    let h = without_equals o (map text_of c.args.patterns.now) (line c.args.line c.args.text.now) _ c.end_of-equals.result
    c.unindented-body.ensures c.end_of-equals.ensures.place c.if-equals-body.true in
    sym (ap (λ r. map (given_in o) c.args.assignments.now.items ++ r) h.0 ∙ append-nil (map (given_in o) c.args.assignments.now.items))

pub returns-then-equals-body-clause-faults : goal.returns-then-equals-body-clause-faults
returns-then-equals-body-clause-faults c =
    let h = without_equals (origin [] 0) (map text_of c.args.patterns.now) (line c.args.line c.args.text.now) _ c.end_of-equals.result
    c.unindented-body.ensures c.end_of-equals.ensures.place c.if-equals-body.true in
    c.in_ok-push.ensures.items ∙ ap (λ r. c.args.faults.now.items ++ r) (sym h.1)

pub returns-then-equals-eq0-clause-assignments : goal.returns-then-equals-eq0-clause-assignments
returns-then-equals-eq0-clause-assignments c = λ o.
    let h = without_key o (map text_of c.args.patterns.now) (line c.args.line c.args.text.now) _ c.end_of-equals.result
    c.unindented-body.ensures c.end_of-equals.ensures.place c.if-equals-body.false c.if-equals-eq0.true in
    sym (ap (λ r. map (given_in o) c.args.assignments.now.items ++ r) h.0 ∙ append-nil (map (given_in o) c.args.assignments.now.items))

pub returns-then-equals-eq0-clause-faults : goal.returns-then-equals-eq0-clause-faults
returns-then-equals-eq0-clause-faults c =
    let h = without_key (origin [] 0) (map text_of c.args.patterns.now) (line c.args.line c.args.text.now) _ c.end_of-equals.result
    c.unindented-body.ensures c.end_of-equals.ensures.place c.if-equals-body.false c.if-equals-eq0.true in
    c.in_ok-push-2.ensures.items ∙ ap (λ r. c.args.faults.now.items ++ r) (sym h.1)

pub returns-clause-assignments : goal.returns-clause-assignments
returns-clause-assignments c =
    on_ok c.assign.result (λ e o.
    let h = with_key o (map text_of c.args.patterns.now) (line c.args.line c.args.text.now) _ c.end_of-equals.result
    _ c.unindented-body.ensures c.end_of-equals.ensures.place c.if-equals-body.false c.if-equals-eq0.false c.end_of-equals.ensures.within
    (take_rest c.unindented-body.result.now (c.end_of-equals.result + 1)) in
    e o ∙ ap (λ r. map (given_in o) c.args.assignments.now.items ++ r) h.0) c.assign.ensures

pub returns-clause-faults : goal.returns-clause-faults
returns-clause-faults c =
    let h = with_key (origin [] 0) (map text_of c.args.patterns.now) (line c.args.line c.args.text.now) _ c.end_of-equals.result
    _ c.unindented-body.ensures c.end_of-equals.ensures.place c.if-equals-body.false c.if-equals-eq0.false c.end_of-equals.ensures.within
    (take_rest c.unindented-body.result.now (c.end_of-equals.result + 1)) in
    on_ok c.assign.result (λ e. sym (ap (λ r. c.args.faults.now.items ++ r) h.1 ∙ append-nil c.args.faults.now.items)) c.assign.ensures
