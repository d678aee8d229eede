use Rattle.hwdb_spec.specs.Patterns.{tokens}
use Rattle.hwdb_forms.proofs.PlainLemmas.{fixed_goes}
use Rattle.hwdb_forms.proofs.plain.through_fixed.Goals as goal

pub returns-then-begins_plainly : goal.returns-then-begins_plainly
returns-then-begins_plainly c = record {
  within = c.begins_plainly.ensures.within c.if-begins_plainly.true;
  cut = c.begins_plainly.ensures.cut c.if-begins_plainly.true;
  through = fixed_goes c.args.bytes.now (tokens c.args.text.now) (c.begins_plainly.ensures.passed c.if-begins_plainly.true);
}
