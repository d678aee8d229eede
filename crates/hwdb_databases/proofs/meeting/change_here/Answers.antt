use Rattle.hwdb_databases.proofs.meeting.change_here.Goals as goal

pub both_here-requires-clause-old : goal.both_here-requires-clause-old
both_here-requires-clause-old c = (rw c.in-Both.is at c.requires).0

pub both_here-requires-clause-new : goal.both_here-requires-clause-new
both_here-requires-clause-new c = (rw c.in-Both.is at c.requires).1
