use Rattle.hwdb_forms.proofs.StepLemmas.{put_one}
use Rattle.hwdb_forms.proofs.steps.put_one.Goals as goal

pub returns : goal.returns
returns c = put_one c.args.steps.now.items _ c.args.set c.args.after _ c.requires c.in_ok-place.ensures.put c.in_ok-place.ensures.place
