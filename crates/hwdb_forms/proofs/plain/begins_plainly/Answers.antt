use Rattle.std.proofs.Common.{arith, add-one, sym, ◌∙◌, ◌+◌}
use Rattle.hwdb_forms.proofs.PlainLemmas.{cut_more, fixed_more}
use Rattle.hwdb_forms.proofs.plain.begins_plainly.Goals as goal

pub loop-at-preserved : goal.loop-at-preserved
loop-at-preserved c = record {
  most = omega arith;
  within = omega arith;
  cut = cut_more c.args.text.now c.loop-at.at (c.loop-at.at + 1) (omega arith) (add-one c.loop-at.at) (sym c.is_wild.ensures ∙ c.if-is_wild.false) c.loop-at.invariant.cut;
  passed = fixed_more c.args.bytes.now c.args.text.now c.loop-at.at (c.loop-at.at + 1) (omega arith) (omega arith) (add-one c.loop-at.at) c.if-text-at.false (sym c.is_wild.ensures ∙ c.if-is_wild.false) c.loop-at.invariant.passed;
}
