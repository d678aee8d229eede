use Rattle.hwdb_databases.proofs.meeting.is_change.Goals as goal

pub differ-requires-clause-old : goal.differ-requires-clause-old
differ-requires-clause-old c = (rw c.in-Both.is at c.requires).0

pub differ-requires-clause-new : goal.differ-requires-clause-new
differ-requires-clause-new c = (rw c.in-Both.is at c.requires).1
