use Rattle.hwdb_writer.proofs.StoredLemmas.{again}
use Rattle.hwdb_writer.proofs.interner.Interner.intern_near.Goals as goal

pub returns-then-is_under-clause-members : goal.returns-then-is_under-clause-members
returns-then-is_under-clause-members c = again c.args.self.now c.args.near c.args.word.word c.if-is_under.ensures
