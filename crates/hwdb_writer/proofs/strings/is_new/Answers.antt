use Rattle.std.proofs.Common.{arith}
use Rattle.hwdb_writer.proofs.TableLemmas.{new_at, old_at}
use Rattle.hwdb_writer.proofs.strings.is_new.Goals as goal

pub returns-then-eq-clause-no : goal.returns-then-eq-clause-no
returns-then-eq-clause-no c =
    old_at c.args.ordered.now c.args.i c.index-ordered-i.result c.index-ordered-i-2.result c.requires (omega (arith, c.if-i-eq0.false)) c.index-ordered-i.is c.index-ordered-i-2.is
    c.if-eq.ensures

pub returns-clause-yes : goal.returns-clause-yes
returns-clause-yes c =
    new_at c.args.ordered.now c.args.i c.index-ordered-i.result c.index-ordered-i-2.result c.requires (omega (arith, c.if-i-eq0.false)) c.index-ordered-i.is c.index-ordered-i-2.is
    c.if-eq.ensures
