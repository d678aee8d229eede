use Rattle.hwdb_databases.proofs.meeting.both_here.Goals as goal

pub are_same-requires-clause-old : goal.are_same-requires-clause-old
are_same-requires-clause-old c = c.requires.old.value

pub are_same-requires-clause-new : goal.are_same-requires-clause-new
are_same-requires-clause-new c = c.requires.new.value
