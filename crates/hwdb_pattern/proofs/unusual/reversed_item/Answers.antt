use Rattle.std.proofs.Common.{◌∙◌, ap, arith, length, sym}
use Rattle.std.proofs.lemmas.List.{take_rest, length-drop}
use Rattle.hwdb_pattern.proofs.RangeLemmas.{item_close, item_end, item_here, item_step}
use Rattle.hwdb_pattern.proofs.unusual.reversed_item.Goals as goal
use Rattle.hwdb_pattern.proofs.unusual.reversed_item.Goals.{else-at-gt0-via-then-at-gt0+else-text-at-eq93, else-at-gt0-via-else-at-gt0}

pub returns-then-text-at-eq93-clause-place : goal.returns-then-text-at-eq93-clause-place
returns-then-text-at-eq93-clause-place c =
    omega (arith, item_close c.args.text.now c.loop-at.at c.if-at-gt0.true c.loop-at-test.true c.if-text-at-eq93.true, c.loop-at.invariant.same)

pub returns-then-begins_reversed-clause-place : goal.returns-then-begins_reversed-clause-place
returns-then-begins_reversed-clause-place c =
    omega (
      arith,
      item_here c.args.text.now _ c.loop-at.at (take_rest c.args.text.now c.loop-at.at) c.loop-at-test.true
          (elim c.else-at-gt0.branch [ else-at-gt0-via-then-at-gt0+else-text-at-eq93 w ↦ (λ _ e. w.if-text-at-eq93.false e) | else-at-gt0-via-else-at-gt0 w ↦ (λ h _. absurd (omega arith)) ])
          (sym c.begins_reversed.ensures ∙ c.if-begins_reversed.true),
      c.loop-at.invariant.same,
    )

pub loop-at-preserved : goal.loop-at-preserved
loop-at-preserved c = record {
  at_in = omega (arith, c.item-at.ensures.within, ap length (take_rest c.args.text.now c.loop-at.at), length-drop c.loop-at.at c.args.text.now);
  same =
      item_step c.args.text.now _ c.loop-at.at c.item-at.result (take_rest c.args.text.now c.loop-at.at) c.loop-at-test.true
      (elim c.else-at-gt0.branch [ else-at-gt0-via-then-at-gt0+else-text-at-eq93 w ↦ (λ _ e. w.if-text-at-eq93.false e) | else-at-gt0-via-else-at-gt0 w ↦ (λ h _. absurd (omega arith)) ])
      (sym c.begins_reversed.ensures ∙ c.if-begins_reversed.false) c.item-at.ensures.part c.item-at.ensures.within c.item-at.ensures.moves
      ∙ c.loop-at.invariant.same;
}

pub returns-clause-place : goal.returns-clause-place
returns-clause-place c = omega (arith, item_end c.args.text.now c.loop-at.at c.loop-at-test.false, c.loop-at.invariant.same)
