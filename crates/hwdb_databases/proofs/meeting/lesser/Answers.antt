use Rattle.std.proofs.Common.{◌∙◌, sym}
use Rattle.hwdb_databases.specs.Internal.Trails.{path_of}
use Rattle.hwdb_databases.proofs.MeetingLemmas.{met_both, met_new, met_old}
use Rattle.hwdb_databases.proofs.meeting.lesser.Goals as goal

pub returns-in-Less-clause-met : goal.returns-in-Less-clause-met
returns-in-Less-clause-met c = met_old c.args.walks.old.now c.args.walks.new.now c.args.x c.args.y c.requires.new (sym (c.compare.ensures (path_of c.args.walks.old.now.walk.trail) (path_of c.args.walks.new.now.walk.trail) c.requires.patterns) ∙ c.in-Less.is)

pub returns-in-Equal-clause-met : goal.returns-in-Equal-clause-met
returns-in-Equal-clause-met c = met_both c.args.walks.old.now c.args.walks.new.now c.args.x c.args.y (sym (c.compare.ensures (path_of c.args.walks.old.now.walk.trail) (path_of c.args.walks.new.now.walk.trail) c.requires.patterns) ∙ c.in-Equal.is)

pub returns-in-Greater-clause-met : goal.returns-in-Greater-clause-met
returns-in-Greater-clause-met c = met_new c.args.walks.old.now c.args.walks.new.now c.args.x c.args.y c.requires.old (sym (c.compare.ensures (path_of c.args.walks.old.now.walk.trail) (path_of c.args.walks.new.now.walk.trail) c.requires.patterns) ∙ c.in-Greater.is)
