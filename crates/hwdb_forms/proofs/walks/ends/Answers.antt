use Rattle.std.proofs.Common.{◌-◌, ◌∙◌, [], arith, refl, sym}
use Rattle.hwdb_forms.specs.Internal.{places}
use Rattle.hwdb_forms.proofs.StepLemmas.{place_told}
use Rattle.hwdb_forms.proofs.WalkLemmas.{end_found, end_led, end_passed}
use Rattle.hwdb_forms.proofs.walks.ends.Goals as goal

pub returns-then-is_end : goal.returns-then-is_end
returns-then-is_end c =
    end_found c.loop-at.now.items (places c.args.steps.now) c.loop-at.at (c.loop-at.at - 1) _ _ c.is_end.result _ (omega arith) (omega (arith, c.loop-at.invariant.long)) (sym c.index.ensures ∙ c.if-index.true)
    (place_told c.args.steps.now (c.loop-at.at - 1) _ _ (omega (arith, c.loop-at.invariant.within, c.requires)) refl) c.is_end.ensures c.if-is_end.true c.loop-at.invariant.met

pub loop-at-preserved-then-index : goal.loop-at-preserved-then-index
loop-at-preserved-then-index c = record {
  within = omega arith;
  long = c.lead.ensures.long ∙ c.loop-at.invariant.long;
  met = end_led c.loop-at.now.items _ (places c.args.steps.now) c.loop-at.at (c.loop-at.at - 1) _ _ c.is_end.result _ (omega arith) (omega (arith, c.loop-at.invariant.long)) (sym c.index.ensures ∙ c.if-index.true)
      (place_told c.args.steps.now (c.loop-at.at - 1) _ _ (omega (arith, c.loop-at.invariant.within, c.requires)) refl) c.is_end.ensures c.if-is_end.false c.lead.ensures.led c.loop-at.invariant.met;
}

pub loop-at-preserved : goal.loop-at-preserved
loop-at-preserved c = record {
  within = omega arith;
  long = c.loop-at.invariant.long;
  met = end_passed c.loop-at.now.items (places c.args.steps.now) c.loop-at.at (c.loop-at.at - 1) [] _ _ (omega arith) (omega (arith, c.loop-at.invariant.long)) (sym c.index.ensures ∙ c.if-index.false) c.loop-at.invariant.met;
}
