use Rattle.std.proofs.Common.{◌-◌, ◌∙◌, length, arith}
use Rattle.hwdb_reader.specs.Passes.Lemmas.Parts.{text_is}
use Rattle.hwdb_lookup.proofs.seen.Seen.text.Goals as goal

pub returns-clause-read : goal.returns-clause-read
returns-clause-read c file is =
    let o = c.args.self in
    let first = o.size - length o.strings.now in
    let fits = o.inside in
    let size = is.size in
    let above = c.if-i-first.false in
    c.text.ensures ∙ text_is file o.strings.now first (c.args.i - first) c.args.i is.strings (omega (arith, fits, size)) (omega (arith, above))
