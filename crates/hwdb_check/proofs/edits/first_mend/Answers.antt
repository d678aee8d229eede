use Rattle.std.proofs.Common.{◌∙◌, Some, ap, sym}
use Rattle.std.specs.Option.{option_map}
use Rattle.hwdb_check.proofs.EditLemmas.{mend_here, no_mend_here, no_mend_left}
use Rattle.hwdb_check.proofs.edits.first_mend.Goals as goal

pub returns-in-Some : goal.returns-in-Some
returns-in-Some c =
    ap Some c.deref.ensures.value
    ∙ sym (c.loop-one.invariant ∙ mend_here c.args.found.now c.loop-one.one-index c.one-item.result c.in-Some.text.items c.loop-one-test.true c.one-item.is (ap (option_map (λ t. t.items)) c.in-Some.is))

pub loop-one-preserved : goal.loop-one-preserved
loop-one-preserved c =
    c.loop-one.invariant ∙ no_mend_here c.args.found.now c.loop-one.one-index c.one-item.result c.loop-one-test.true c.one-item.is (ap (option_map (λ t. t.items)) c.in_default.is)

pub returns : goal.returns
returns c = sym (c.loop-one.invariant ∙ no_mend_left c.args.found.now c.loop-one.one-index c.loop-one-test.false)
