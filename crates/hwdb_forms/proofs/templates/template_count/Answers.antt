use Rattle.std.proofs.Common.{arith, add-one, ◌+◌}
use Rattle.hwdb_forms.proofs.PlainLemmas.{cut_more}
use Rattle.hwdb_forms.proofs.TemplateLemmas.{led_more}
use Rattle.hwdb_forms.proofs.templates.template_count.Goals as goal

pub loop-at-preserved : goal.loop-at-preserved
loop-at-preserved c = record {
  most = omega arith;
  cut = cut_more c.args.text.now c.loop-at.at (c.loop-at.at + 1) (omega arith) (add-one c.loop-at.at) (c.is_for.ensures.plain c.if-not-is_for.false) c.loop-at.invariant.cut;
  led = led_more c.args.template.now c.args.text.now c.loop-at.at (c.loop-at.at + 1) (omega arith) (omega arith) (add-one c.loop-at.at) (c.is_for.ensures.own c.if-not-is_for.false) (c.is_for.ensures.plain c.if-not-is_for.false)
      c.loop-at.invariant.cut c.loop-at.invariant.led;
}
