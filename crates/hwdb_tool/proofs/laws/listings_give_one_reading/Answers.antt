use Rattle.hwdb_tool.proofs.ReadingLemmas.{one_choice, one_reading}
use Rattle.hwdb_tool.proofs.laws.listings_give_one_reading.Goals as goal

pub returns-clause-choice : goal.returns-clause-choice
returns-clause-choice c = λ root files etc usr etc2 usr2 in_etc in_usr in_etc2 in_usr2.
    one_choice c.names_are_those_that_count.ensures c.names_ascend.ensures c.one_ascending_list.ensures root files etc usr etc2 usr2 in_etc in_usr in_etc2 in_usr2

pub returns-clause-reading : goal.returns-clause-reading
returns-clause-reading c = λ root files etc usr etc2 usr2 in_etc in_usr in_etc2 in_usr2.
    one_reading c.names_are_those_that_count.ensures c.names_ascend.ensures c.one_ascending_list.ensures root files etc usr etc2 usr2 in_etc in_usr in_etc2 in_usr2
