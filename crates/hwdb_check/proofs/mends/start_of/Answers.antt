use Rattle.std.proofs.Common.{◌∙◌, ap, arith, sym}
use Rattle.std.proofs.Common.{List, ℕ}
use Rattle.hwdb_spec.specs.Lines.{begins_with}
use Rattle.hwdb_check.proofs.MendLemmas.{start_back, start_first, start_here}
use Rattle.hwdb_check.proofs.mends.start_of.Goals as goal

pub returns-then-begins_with-clause-start : goal.returns-then-begins_with-clause-start
returns-then-begins_with-clause-start c =
    start_here c.args.pattern.now c.loop-at.at (omega (arith, c.loop-at-test.true))
    (sym (ap (λ (t : List ℕ). begins_with 58 t) c.rest_of.ensures) ∙ sym c.begins_with.ensures ∙ c.if-begins_with.true) ∙ c.loop-at.invariant

pub loop-at-preserved : goal.loop-at-preserved
loop-at-preserved c =
    start_back c.args.pattern.now c.loop-at.at (omega (arith, c.loop-at-test.true))
    (sym (ap (λ (t : List ℕ). begins_with 58 t) c.rest_of.ensures) ∙ sym c.begins_with.ensures ∙ c.if-begins_with.false) ∙ c.loop-at.invariant

pub returns-clause-start : goal.returns-clause-start
returns-clause-start c = start_first c.args.pattern.now c.loop-at.at (omega (arith, c.loop-at-test.false)) ∙ c.loop-at.invariant
