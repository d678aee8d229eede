use Rattle.hwdb_forms.proofs.FittingLemmas.{texts_found}
use Rattle.hwdb_forms.proofs.laws.texts_are_found.Goals as goal

pub returns : goal.returns
returns c = texts_found
