use Rattle.hwdb_forms.proofs.FittingLemmas.{texts_shortest}
use Rattle.hwdb_forms.proofs.laws.texts_are_shortest.Goals as goal

pub returns : goal.returns
returns c = texts_shortest
