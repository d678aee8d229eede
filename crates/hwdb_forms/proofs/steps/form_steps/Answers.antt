use Rattle.hwdb_forms.proofs.StepLemmas.{laid_form}
use Rattle.hwdb_forms.proofs.steps.form_steps.Goals as goal

pub returns : goal.returns
returns c = laid_form _ _ _ _ c.args.form.prefix.now c.args.form.fields.now c.in_ok-steps.ensures c.in_ok-entry.ensures

pub put_fixed-requires : goal.put_fixed-requires
put_fixed-requires c = c.in_ok-steps.ensures.within
