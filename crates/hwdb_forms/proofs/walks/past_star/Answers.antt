use Rattle.std.proofs.Common.{◌≡◌, ◌-◌, ◌∙◌, ℕ, ap, arith, false, length, refl, sym}
use Rattle.std.specs.Prelude.{replicate}
use Rattle.hwdb_spec.specs.Patterns.{star}
use Rattle.hwdb_forms.specs.Internal.{places}
use Rattle.hwdb_forms.proofs.StepLemmas.{place_told}
use Rattle.hwdb_forms.proofs.WalkLemmas.{all_left, left_place, made_long, passed_place}
use Rattle.hwdb_forms.proofs.walks.past_star.Goals as goal

pub loop-at-init : goal.loop-at-init
loop-at-init c =
    let long : c.len.result ≡ length c.args.now.items = omega arith in
    let made = c.in_ok-next.ensures.items_if_clones_equal (λ y e. e) ∙ ap (λ (n : ℕ). replicate n false) long in record {
      within = omega arith;
      now = refl;
      next = made_long c.in_ok-next.next.items (length c.args.now.items) made;
      left = λ us. all_left c.args.now.items c.in_ok-next.next.items (places c.args.steps.now) c.len-at.result star us (omega arith) (made ∙ ap (λ (n : ℕ). replicate n false) (omega arith));
    }

pub loop-at-preserved-then-index : goal.loop-at-preserved-then-index
loop-at-preserved-then-index c = record {
  within = omega arith;
  now = c.pass_star.ensures.now ∙ c.loop-at.invariant.now;
  next = c.pass_star.ensures.next ∙ c.loop-at.invariant.next;
  left = λ us. passed_place c.loop-at.now.items c.loop-at.next.items _ _ (places c.args.steps.now) c.loop-at.at (c.loop-at.at - 1) star us _ _ (omega arith) (omega (arith, c.loop-at.invariant.now)) (sym c.index.ensures ∙ c.if-index.true)
      (c.pass_star.ensures.left (places c.args.steps.now) us (place_told c.args.steps.now (c.loop-at.at - 1) _ _ (omega (arith, c.loop-at.invariant.within, c.requires)) refl)) (c.loop-at.invariant.left us);
}

pub loop-at-preserved : goal.loop-at-preserved
loop-at-preserved c = record {
  within = omega arith;
  now = c.loop-at.invariant.now;
  next = c.loop-at.invariant.next;
  left = λ us. left_place c.loop-at.now.items c.loop-at.next.items (places c.args.steps.now) c.loop-at.at (c.loop-at.at - 1) star us _ _ (omega arith) (omega (arith, c.loop-at.invariant.now)) (sym c.index.ensures ∙ c.if-index.false) (c.loop-at.invariant.left us);
}
