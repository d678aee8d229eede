use Rattle.hwdb_query.proofs.position.Position.read.Goals as goal

pub returns-in-None-clause-refused : goal.returns-in-None-clause-refused
returns-in-None-clause-refused c = λ bad p s. c.in_ok-position.ensures.refused c.in-None.is p s
