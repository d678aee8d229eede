use Rattle.hwdb_forms.proofs.StepLemmas.{put_byte}
use Rattle.hwdb_forms.proofs.steps.put_byte.Goals as goal

pub returns : goal.returns
returns c = put_byte c.args.steps.now.items _ c.args.own c.args.after _ c.requires c.in_ok-place.ensures.put c.in_ok-place.ensures.place
