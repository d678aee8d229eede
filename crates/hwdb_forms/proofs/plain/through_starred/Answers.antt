use Rattle.std.proofs.Common.{ap, arith, refl, ◌+◌, length}
use Rattle.std.proofs.lemmas.List.{take_rest}
use Rattle.hwdb_spec.specs.Patterns.{tokens}
use Rattle.hwdb_forms.proofs.PlainLemmas.{cut_first, cut_on, fixed_skips, fixed_stays, within_text}
use Rattle.hwdb_forms.proofs.plain.through_starred.Goals as goal

pub returns-then-is_empty : goal.returns-then-is_empty
returns-then-is_empty c = record {
  within = omega arith;
  cut = cut_first c.args.text.now;
  through = fixed_stays c.args.bytes.now (tokens c.args.text.now) _ c.requires.star;
}

pub returns-then-begins_plainly : goal.returns-then-begins_plainly
returns-then-begins_plainly c = record {
  within = within_text c.args.text.now _ 1 _ (length c.args.bytes.now) (take_rest c.args.text.now 1) c.requires.within refl (c.begins_plainly.ensures.within c.if-begins_plainly.true);
  cut = cut_on c.args.text.now _ 1 _ (length c.args.bytes.now) (1 + length c.args.bytes.now) refl refl (take_rest c.args.text.now 1) c.requires.cut (c.begins_plainly.ensures.cut c.if-begins_plainly.true);
  through = fixed_skips c.args.bytes.now (tokens c.args.text.now) _ _ (1 + length c.args.bytes.now) c.if-is_empty.ensures c.requires.star (ap tokens (take_rest c.args.text.now 1)) (omega arith)
      (c.begins_plainly.ensures.passed c.if-begins_plainly.true);
}

pub returns : goal.returns
returns c = record {
  within = omega arith;
  cut = cut_first c.args.text.now;
  through = fixed_stays c.args.bytes.now (tokens c.args.text.now) _ c.requires.star;
}
