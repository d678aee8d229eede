use Rattle.hwdb_compile.proofs.InWordsLemmas as words
use Rattle.hwdb_compile.proofs.laws.last_is_latest.Goals as goal

pub returns : goal.returns
returns c = words.last_is_latest c.priorities_count_up.ensures c.assignments_stand_by_line.ensures c.one_value_a_line.ensures
