use Rattle.hwdb_writer.proofs.StoredLemmas.{grows_itself, again}
use Rattle.hwdb_writer.proofs.interner.Interner.intern.Goals as goal

pub returns-in-Some-clause-grows : goal.returns-in-Some-clause-grows
returns-in-Some-clause-grows c = grows_itself c.args.self.now

pub returns-in-Some-clause-members : goal.returns-in-Some-clause-members
returns-in-Some-clause-members c = again c.args.self.now c.in-Some.number c.args.word.word c.in-Some.ensures
