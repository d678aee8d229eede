use Rattle.std.proofs.Common.{ap, ◌∙◌}
use Rattle.std.proofs.lemmas.List.{take_rest}
use Rattle.hwdb_spec.specs.Patterns.{tokens}
use Rattle.hwdb_forms.specs.Internal.{units}
use Rattle.hwdb_forms.proofs.PlainLemmas.{led_starred}
use Rattle.hwdb_forms.proofs.TemplateLemmas.{led_all}
use Rattle.hwdb_forms.proofs.templates.through_template.Goals as goal

pub returns-then-taken-template : goal.returns-then-taken-template
returns-then-taken-template c = record {
  within = c.template_count-taken.ensures.within;
  cut = c.template_count-taken.ensures.cut;
  through = led_all c.args.template.now (tokens c.args.text.now) c.template_count-taken.result c.if-taken-template.true c.template_count-taken.ensures.led;
}

pub returns-then-is_lone_star : goal.returns-then-is_lone_star
returns-then-is_lone_star c = record {
  within = c.template_count-taken.ensures.within;
  cut = c.template_count-taken.ensures.cut;
  through = led_starred (units c.args.template.now) (tokens c.args.text.now) _ c.template_count-taken.result c.template_count-taken.result
      (ap tokens (take_rest c.args.text.now c.template_count-taken.result) ∙ c.template_count-taken.ensures.cut) (c.is_lone_star.ensures c.if-is_lone_star.true) c.template_count-taken.ensures.led;
}
