use Rattle.std.proofs.Common.{arith, add-one, ap, ◌∙◌, ◌+◌, ◌++◌, ℕ, map}
use Rattle.std.proofs.lemmas.List.{take_rest}
use Rattle.hwdb_forms.specs.Internal.{piece_of, views}
use Rattle.hwdb_forms.proofs.LeadLemmas.{led_ended, led_first, led_next, long_views, mapped_at, mapped_long, views_drop, within_rest}
use Rattle.hwdb_forms.proofs.leads.lead_of.Goals as goal

pub loop-done-init : goal.loop-done-init
loop-done-init c = record {
  pieces = omega arith;
  tokens = omega arith;
  led = λ more. led_first (map piece_of c.args.pieces.now) (views c.args.tokens.now ++ more);
}

pub loop-done-preserved : goal.loop-done-preserved
loop-done-preserved c = record {
  pieces = omega arith;
  tokens = within_rest c.args.tokens.now _ c.loop-done.at _ c.size-at.result (take_rest c.args.tokens.now c.loop-done.at) (omega arith)
      c.size-at.ensures (c.pass-passed.ensures.within c.in-Yes.is);
  led = led_next (map piece_of c.args.pieces.now) (views c.args.tokens.now) _ c.loop-done.done (c.loop-done.done + 1) c.loop-done.at (c.loop-done.at + c.size-at.result) _ _ c.pass-passed.result
      (omega (arith, mapped_long c.args.pieces.now)) (add-one c.loop-done.done)
      (ap views (take_rest c.args.tokens.now c.loop-done.at) ∙ views_drop c.args.tokens.now c.loop-done.at) (long_views c.args.tokens.now c.loop-done.at (omega arith))
      (ap (λ (n : ℕ). c.loop-done.at + n) c.size-at.ensures) (mapped_at c.args.pieces.now c.loop-done.done _)
      c.pass-passed.ensures.passed c.in-Yes.is c.loop-done.invariant.led;
}

pub returns-in_default : goal.returns-in_default
returns-in_default c = record {
  pieces = omega arith;
  tokens = omega arith;
  leads = led_ended (map piece_of c.args.pieces.now) (views c.args.tokens.now) _ c.loop-done.done c.loop-done.at _ _ c.pass-passed.result c.is_no.result
      (omega (arith, mapped_long c.args.pieces.now)) (ap views (take_rest c.args.tokens.now c.loop-done.at) ∙ views_drop c.args.tokens.now c.loop-done.at)
      (long_views c.args.tokens.now c.loop-done.at (omega arith)) (mapped_at c.args.pieces.now c.loop-done.done _) c.pass-passed.ensures.passed c.is_no.ensures c.loop-done.invariant.led;
}
