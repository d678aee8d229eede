use Rattle.hwdb_compile.proofs.LatestLemmas as latest
use Rattle.hwdb_compile.proofs.laws.survivors_are_latest.Goals as goal

pub returns-clause-assigned : goal.returns-clause-assigned
returns-clause-assigned c = latest.survivors_are_assigned

pub returns-clause-each : goal.returns-clause-each
returns-clause-each c = latest.each_place_survives

pub returns-clause-latest : goal.returns-clause-latest
returns-clause-latest c = latest.survivors_are_latest c.priorities_count_up.ensures c.assignments_stand_by_line.ensures
