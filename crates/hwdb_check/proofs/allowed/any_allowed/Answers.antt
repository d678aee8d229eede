use Rattle.std.proofs.Common.{◌∙◌, ap, not}
use Rattle.hwdb_check.proofs.WordLemmas.{none_found}
use Rattle.hwdb_check.proofs.allowed.any_allowed.Goals as goal

pub returns-then-is_none : goal.returns-then-is_none
returns-then-is_none c = none_found c.args.bytes.now c.find.result c.find.ensures (c.is_none.ensures ∙ ap not c.if-is_none.true)
