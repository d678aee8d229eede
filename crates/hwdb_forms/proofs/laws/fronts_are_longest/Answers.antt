use Rattle.hwdb_forms.proofs.FrontLemmas.{longest}
use Rattle.hwdb_forms.proofs.laws.fronts_are_longest.Goals as goal

pub returns : goal.returns
returns c = longest
