use Rattle.hwdb_forms.proofs.FittingLemmas.{texts_fit}
use Rattle.hwdb_forms.proofs.laws.texts_fit.Goals as goal

pub returns : goal.returns
returns c = texts_fit
