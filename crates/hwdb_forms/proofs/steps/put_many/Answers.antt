use Rattle.hwdb_forms.proofs.StepLemmas.{put_many}
use Rattle.hwdb_forms.proofs.steps.put_many.Goals as goal

pub returns : goal.returns
returns c = put_many c.args.steps.now.items _ c.args.set c.args.after _ c.requires c.in_ok-place.ensures.put c.in_ok-place.ensures.place
