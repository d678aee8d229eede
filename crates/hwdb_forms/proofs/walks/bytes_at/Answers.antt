use Rattle.std.proofs.Common.{◌-◌, ◌∙◌, ◌∷◌, [], arith, refl, sym}
use Rattle.hwdb_spec.specs.Patterns.{literal, star}
use Rattle.hwdb_forms.specs.Internal.{has_byte, places}
use Rattle.hwdb_forms.proofs.StepLemmas.{place_told, places_long}
use Rattle.hwdb_forms.proofs.WalkLemmas.{bytes_led, bytes_passed}
use Rattle.hwdb_forms.proofs.walks.bytes_at.Goals as goal

pub loop-at-preserved-then-index : goal.loop-at-preserved-then-index
loop-at-preserved-then-index c = record {
  within = omega arith;
  long = c.lead.ensures.long ∙ c.loop-at.invariant.long;
  met = λ b h. bytes_led c.loop-at.now.items _ (places c.args.steps.now) c.loop-at.at (c.loop-at.at - 1) b _ _ (has_byte c.loop-at.bytes b) (has_byte c.step_bytes.result b) _ _ (omega arith) (omega (arith, c.loop-at.invariant.long)) (sym c.index.ensures ∙ c.if-index.true)
      (omega (arith, places_long c.args.steps.now, c.loop-at.invariant.within, c.requires.now)) c.requires.live (place_told c.args.steps.now (c.loop-at.at - 1) _ _ (omega (arith, c.loop-at.invariant.within, c.requires.now)) refl) c.lead.ensures.led (c.step_bytes.ensures b h) (c.joined-bytes.ensures b) (c.loop-at.invariant.met b h);
}

pub loop-at-preserved : goal.loop-at-preserved
loop-at-preserved c = record {
  within = omega arith;
  long = c.loop-at.invariant.long;
  met = λ b h. bytes_passed c.loop-at.now.items (places c.args.steps.now) c.loop-at.at (c.loop-at.at - 1) (literal b ∷ star ∷ []) _ (has_byte c.loop-at.bytes b) _ (omega arith) (omega (arith, c.loop-at.invariant.long)) (sym c.index.ensures ∙ c.if-index.false) (c.loop-at.invariant.met b h);
}
