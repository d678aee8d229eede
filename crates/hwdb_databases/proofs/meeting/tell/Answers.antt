use Rattle.hwdb_databases.proofs.meeting.tell.Goals as goal

pub tell_both-requires-clause-old : goal.tell_both-requires-clause-old
tell_both-requires-clause-old c = (rw c.in-Both.is at c.requires).0

pub tell_both-requires-clause-new : goal.tell_both-requires-clause-new
tell_both-requires-clause-new c = (rw c.in-Both.is at c.requires).1
