use Rattle.hwdb_exports.proofs.SetLemmas.{left_at}
use Rattle.hwdb_exports.proofs.names.taken.Goals as goal

pub returns-in-Some-clause-left : goal.returns-in-Some-clause-left
returns-in-Some-clause-left c = left_at c.args.names.now c.remove.new.self c.args.folder.now c.remove.ensures.entries
