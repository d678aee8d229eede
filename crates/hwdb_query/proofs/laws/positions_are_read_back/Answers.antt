use Rattle.hwdb_query.proofs.SpellingLemmas.{spells_one, canonical_spells}
use Rattle.hwdb_query.proofs.laws.positions_are_read_back.Goals as goal

pub returns-clause-one : goal.returns-clause-one
returns-clause-one c = spells_one

pub returns-clause-canonical : goal.returns-clause-canonical
returns-clause-canonical c = canonical_spells
