use Rattle.std.proofs.Common.{arith}
use Rattle.hwdb_reader.proofs.StringLemmas.{text_found, text_open}
use Rattle.hwdb_reader.proofs.fields.text.Goals as goal

pub returns-in-Some : goal.returns-in-Some
returns-in-Some c =
    let h = c.in-Some.ensures in
    text_found c.args.b.now c.args.i c.in-Some.n (omega arith) h.0.high h.0.before h.1

pub returns-in-None : goal.returns-in-None
returns-in-None c = text_open c.args.b.now c.args.i (omega arith) c.in-None.ensures
