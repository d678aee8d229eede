use Rattle.std.proofs.Common.{sym, eqb-true, length}
use Rattle.hwdb_pattern.proofs.CutLemmas.{star_admits, empty_admits}
use Rattle.hwdb_pattern.proofs.cut.begins_with.Goals as goal

pub returns-then-is_empty : goal.returns-then-is_empty
returns-then-is_empty c = empty_admits c.args.text.now c.args.byte (eqb-true (length c.args.text.now) 0 (sym c.if-is_empty.ensures))

pub returns-then-text-eq42 : goal.returns-then-text-eq42
returns-then-text-eq42 c = star_admits c.args.text.now c.args.byte c.if-text-eq42.true
