use Rattle.std.specs.Cmp.Lexicographic.{same_text}
use Rattle.hwdb_writer.proofs.keyed.KeyedStr.is.Goals as goal

pub returns-then-eq : goal.returns-then-eq
returns-then-eq c = same_text c.args.self.now.word c.args.other.now.word c.if-eq.ensures
