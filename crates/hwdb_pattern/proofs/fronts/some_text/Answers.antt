use Rattle.std.proofs.Common.{sym, eqb-true, length}
use Rattle.hwdb_pattern.proofs.FrontLemmas.{empty_same}
use Rattle.hwdb_pattern.proofs.fronts.some_text.Goals as goal

pub returns-then-is_empty-clause-same : goal.returns-then-is_empty-clause-same
returns-then-is_empty-clause-same c = empty_same c.args.text.now (eqb-true (length c.args.text.now) 0 (sym c.if-is_empty.ensures))
