use Rattle.std.proofs.Common.{◌-◌, ◌∙◌, arith, sym}
use Rattle.hwdb_forms.proofs.WalkLemmas.{trim_more}
use Rattle.hwdb_forms.proofs.walks.trimmed.Goals as goal

pub loop-size-preserved : goal.loop-size-preserved
loop-size-preserved c = record {
  within = omega (arith, c.loop-size.invariant.within);
  met = λ ls us. trim_more c.args.marks.items ls c.loop-size.size (c.loop-size.size - 1) us _ _ (omega (arith, c.loop-size-test.true)) (omega (arith, c.loop-size.invariant.within, c.loop-size-test.true)) (sym c.index.ensures ∙ c.if-not-index.true)
      (c.loop-size.invariant.met ls us);
}
