use Rattle.std.proofs.Common.{ap, sym, ◌∙◌, length, arith, cond, true}
use Rattle.std.proofs.lemmas.List.{take_rest, length-drop}
use Rattle.hwdb_pattern.proofs.BracketLemmas.{items_step, items_closed, items_open}
use Rattle.hwdb_pattern.proofs.brackets.items.Goals as goal
use Rattle.hwdb_pattern.proofs.brackets.items.Goals.{else-at-gt0-via-then-at-gt0+else-text-at-eq93, else-at-gt0-via-else-at-gt0, then-admits, else-admits}

pub returns-then-text-at-eq93-clause-part : goal.returns-then-text-at-eq93-clause-part
returns-then-text-at-eq93-clause-part c =
    items_closed c.args.text.now c.loop-at.at c.args.byte c.loop-at.admits c.if-at-gt0.true c.loop-at-test.true c.if-text-at-eq93.true
    ∙ c.loop-at.invariant.ahead

pub loop-at-preserved : goal.loop-at-preserved
loop-at-preserved c = record {
  at_in = omega (arith, ap length (take_rest c.args.text.now c.loop-at.at), length-drop c.loop-at.at c.args.text.now);
  ahead =
      items_step c.args.text.now _ c.loop-at.at c.args.byte c.loop-at.admits c.if-admits.admits c.item-next.result
      (take_rest c.args.text.now c.loop-at.at) c.loop-at-test.true
      (elim c.else-at-gt0.branch [ else-at-gt0-via-then-at-gt0+else-text-at-eq93 w ↦ (λ _ e. w.if-text-at-eq93.false e) | else-at-gt0-via-else-at-gt0 w ↦ (λ h _. absurd (omega arith)) ])
      c.item-next.ensures.part
      (elim c.if-admits.branch [ then-admits w ↦ w.admits-is ∙ w.if-admits.true ∙ sym (ap (λ b. cond b true c.item-next.result.admits) w.if-admits.true) | else-admits w ↦ w.admits-is ∙ sym (ap (λ b. cond b true c.item-next.result.admits) w.if-admits.false) ])
      c.item-next.ensures.moves
      ∙ c.loop-at.invariant.ahead;
}

pub returns-clause-part : goal.returns-clause-part
returns-clause-part c = items_open c.args.text.now c.loop-at.at c.args.byte c.loop-at.admits c.loop-at-test.false ∙ c.loop-at.invariant.ahead
