use Rattle.std.proofs.Common.{sym}
use Rattle.hwdb_writer.proofs.TableLemmas.{known_at}
use Rattle.hwdb_writer.proofs.interner.Interner.is_under.Goals as goal

pub returns-then-is : goal.returns-then-is
returns-then-is c =
    known_at c.deref-known.result.now c.self.inside.words.items c.args.self.now c.args.number c.index-known-at.result c.args.word.now.word c.deref-known.ensures.value (sym c.self.view_is) c.if-at-known.true c.index-known-at.is
    c.if-is.ensures
