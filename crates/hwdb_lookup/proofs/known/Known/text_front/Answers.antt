use Rattle.std.proofs.Common.{◌∙◌, sym, ap, arith, length}
use Rattle.hwdb_lookup.proofs.KnownLemmas.{text_front_same, agree_back}
use Rattle.hwdb_lookup.proofs.TextLemmas.{front_within}
use Rattle.hwdb_lookup.proofs.known.Known.text_front.Goals as goal

pub returns-clause-read : goal.returns-clause-read
returns-clause-read c = λ file m.
    let b = c.args.self.buffer.now in
    let least = c.min-end.ensures in
    let sum = c.saturating_add.ensures in
    let far = c.requires in
    c.text_front.ensures
    ∙ text_front_same b file c.args.i c.args.most _ (sym m.size) (λ j lt below. omega (arith, lt, below, least, sum, far)) (agree_back file b c.args.i _ (c.in_ok-need.ensures.read file m))

pub returns-clause-within : goal.returns-clause-within
returns-clause-within c =
    let w = front_within c.args.self.buffer.now c.args.i c.args.most c.requires in
    let is = ap length c.text_front.ensures in
    omega (arith, w, is)
