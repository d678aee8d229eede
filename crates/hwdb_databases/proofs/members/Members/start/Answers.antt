use Rattle.std.proofs.lemmas.Result.{IfOk-weaker}
use Rattle.hwdb_reader.specs.Unread.{file_at}
use Rattle.hwdb_databases.proofs.members.Members.start.Goals as goal

pub returns-clause-all : goal.returns-clause-all
returns-clause-all c = c.start_at.ensures.all c.args.db.now c.root.ensures.root

pub returns-clause-walk : goal.returns-clause-walk
returns-clause-walk c = c.start_at.ensures.walk c.args.db.now c.root.ensures.root

pub returns-clause-file : goal.returns-clause-file
returns-clause-file c = IfOk-weaker c.start_at.result _ _ (λ m is. (file_at c.root.result, is)) c.start_at.ensures.file
