use Rattle.std.proofs.Common.{arith, add-one, ap, refl, ◌∙◌, ◌+◌, map}
use Rattle.std.proofs.lemmas.List.{take_rest}
use Rattle.hwdb_spec.specs.Patterns.{tokens}
use Rattle.hwdb_forms.specs.Internal.{piece_of}
use Rattle.hwdb_forms.proofs.LeadLemmas.{mapped_at, mapped_long}
use Rattle.hwdb_forms.proofs.PlainLemmas.{cut_on, led_on, led_starred, led_whole, within_text}
use Rattle.hwdb_forms.proofs.plain.through_way.Goals as goal

pub loop-done-preserved : goal.loop-done-preserved
loop-done-preserved c = record {
  pieces = omega arith;
  within = within_text c.args.text.now _ c.loop-done.at _ c.in-Some.taken (take_rest c.args.text.now c.loop-done.at) (omega arith) refl c.in-Some.ensures.within;
  cut = cut_on c.args.text.now _ c.loop-done.at _ c.in-Some.taken (c.loop-done.at + c.in-Some.taken) refl refl (take_rest c.args.text.now c.loop-done.at) c.loop-done.invariant.cut c.in-Some.ensures.cut;
  led = led_on (map piece_of c.args.way.now) (tokens c.args.text.now) _ c.loop-done.done (c.loop-done.done + 1) c.loop-done.at (c.loop-done.at + c.in-Some.taken) c.in-Some.taken _ _
      (omega (arith, mapped_long c.args.way.now)) (add-one c.loop-done.done)
      (ap tokens (take_rest c.args.text.now c.loop-done.at) ∙ c.loop-done.invariant.cut) refl (mapped_at c.args.way.now c.loop-done.done _) c.in-Some.ensures.through c.loop-done.invariant.led;
}

pub returns-then-is_lone_star : goal.returns-then-is_lone_star
returns-then-is_lone_star c = record {
  within = c.loop-done.invariant.within;
  cut = c.loop-done.invariant.cut;
  through = led_starred (map piece_of c.args.way.now) (tokens c.args.text.now) _ c.loop-done.done c.loop-done.at
      (ap tokens (take_rest c.args.text.now c.loop-done.at) ∙ c.loop-done.invariant.cut) (c.is_lone_star.ensures c.if-is_lone_star.true) c.loop-done.invariant.led;
}

pub returns : goal.returns
returns c = record {
  within = c.loop-done.invariant.within;
  cut = c.loop-done.invariant.cut;
  through = led_whole (map piece_of c.args.way.now) (tokens c.args.text.now) c.loop-done.done c.loop-done.at (omega (arith, mapped_long c.args.way.now)) c.loop-done.invariant.led;
}
