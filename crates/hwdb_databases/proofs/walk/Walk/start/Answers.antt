use Rattle.hwdb_databases.proofs.walk.Walk.start.Goals as goal

pub returns-clause-walk : goal.returns-clause-walk
returns-clause-walk c = c.start_at.ensures.walk c.args.db.now c.root.ensures.root

pub returns-clause-all : goal.returns-clause-all
returns-clause-all c = c.start_at.ensures.all c.args.db.now c.root.ensures.root

pub returns-clause-named : goal.returns-clause-named
returns-clause-named c = c.start_at.ensures.named c.args.db.now c.root.ensures.root
