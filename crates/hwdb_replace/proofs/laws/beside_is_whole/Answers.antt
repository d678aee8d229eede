use Rattle.hwdb_replace.proofs.BesideLemmas.{nothing_else_is_put, theirs_are_whole}
use Rattle.hwdb_replace.proofs.laws.beside_is_whole.Goals as goal

pub returns-clause-put : goal.returns-clause-put
returns-clause-put c = nothing_else_is_put

pub returns-clause-theirs : goal.returns-clause-theirs
returns-clause-theirs c = theirs_are_whole
