use Rattle.std.proofs.Common.{◌-◌, ◌∙◌, ap, length, arith}
use Rattle.hwdb_reader.specs.Passes.Lemmas.Parts.{front_is}
use Rattle.hwdb_lookup.proofs.TextLemmas.{front_within}
use Rattle.hwdb_lookup.proofs.seen.Seen.text_front.Goals as goal

pub returns-clause-read : goal.returns-clause-read
returns-clause-read c file is =
    let o = c.args.self in
    let first = o.size - length o.strings.now in
    let fits = o.inside in
    let size = is.size in
    let above = c.if-i-first.false in
    c.text_front.ensures ∙ front_is file o.strings.now first (c.args.i - first) c.args.i c.args.most is.strings (omega (arith, fits, size)) (omega (arith, above))

pub returns-clause-within : goal.returns-clause-within
returns-clause-within c =
    let o = c.args.self in
    let first = o.size - length o.strings.now in
    let fits = o.inside in
    let far = c.requires in
    let above = c.if-i-first.false in
    let w = front_within o.strings.now (c.args.i - first) c.args.most (omega (arith, fits, far, above)) in
    let is = ap length c.text_front.ensures in
    omega (arith, w, is, fits, above)
