use Rattle.std.proofs.Common.{sym, eqb-true, length}
use Rattle.hwdb_pattern.proofs.CutLemmas.{star_begins, no_star_begins, empty_star}
use Rattle.hwdb_pattern.proofs.cut.begins_star.Goals as goal

pub returns-then-is_empty : goal.returns-then-is_empty
returns-then-is_empty c = empty_star c.args.text.now (eqb-true (length c.args.text.now) 0 (sym c.if-is_empty.ensures))

pub returns-then-text-eq42 : goal.returns-then-text-eq42
returns-then-text-eq42 c = star_begins c.args.text.now c.if-text-eq42.true

pub returns : goal.returns
returns c = no_star_begins c.args.text.now c.if-text-eq42.false
