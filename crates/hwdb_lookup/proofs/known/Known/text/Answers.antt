use Rattle.std.proofs.Common.{length, ◌∙◌, sym, ap, arith}
use Rattle.hwdb_lookup.proofs.KnownLemmas.{text_same, agree_back}
use Rattle.hwdb_lookup.proofs.known.Known.text.Goals as goal

pub returns-clause-read : goal.returns-clause-read
returns-clause-read c = λ file m.
    let b = c.args.self.buffer.now in
    let end = c.min-end.result in
    let least = c.min-end.ensures in
    let sum = c.saturating_add.ensures in
    let is = c.text-string.ensures in
    let size = ap length is in
    let far = c.requires in
    c.text-string.ensures
    ∙ text_same b file c.args.i _ (sym m.size) (λ j within below. omega (arith, within, below, least, sum, size, far)) (agree_back file b c.args.i _ (c.in_ok-need.ensures.read file m))
