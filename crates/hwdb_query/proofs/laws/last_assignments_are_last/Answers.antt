use Rattle.hwdb_query.proofs.InWordsLemmas as words
use Rattle.hwdb_query.proofs.laws.last_assignments_are_last.Goals as goal

pub returns-clause-are : goal.returns-clause-are
returns-clause-are c = words.last_assignments_are_last c.matches_is_tested.ensures

pub returns-clause-one : goal.returns-clause-one
returns-clause-one c = words.one_list_is_last
