use Rattle.std.proofs.Common.{◌∙◌, ap, not}
use Rattle.hwdb_databases.proofs.LineLemmas.{some_there}
use Rattle.hwdb_databases.proofs.pairs.are_any.Goals as goal

pub returns : goal.returns
returns c = ap not c.is_empty.ensures ∙ some_there c.args.changes.now
