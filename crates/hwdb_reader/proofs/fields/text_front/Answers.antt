use Rattle.std.proofs.Common.{◌-◌, take, drop, length}
use Rattle.std.proofs.lemmas.List.{take_rest}
use Rattle.hwdb_reader.proofs.StringLemmas.{front_found, front_open}
use Rattle.hwdb_reader.proofs.fields.text_front.Goals as goal

pub returns-in-Some : goal.returns-in-Some
returns-in-Some c =
    let b = c.args.b.now in
    let i = c.args.i in
    let h = c.in-Some.ensures in
    front_found b (take (length b - i) (drop i b)) i c.min.result c.args.most c.in-Some.n (take_rest b i) c.min.ensures h.0.high h.0.before h.1

pub returns-in-None : goal.returns-in-None
returns-in-None c =
    let b = c.args.b.now in
    let i = c.args.i in
    front_open b (take (length b - i) (drop i b)) i c.min.result c.args.most (take_rest b i) c.min.ensures c.in-None.ensures
