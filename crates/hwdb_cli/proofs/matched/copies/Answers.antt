use Rattle.std.proofs.Common.{◌∙◌, ap, arith, map}
use Rattle.std.proofs.lemmas.List.{take_all}
use Rattle.hwdb_cli.proofs.matched.copies.Goals as goal

pub returns : goal.returns
returns c =
    let last = c.copying-test.false in
    c.copying.invariant ∙ ap (map (λ t. t.now)) (take_all c.copying.text-index c.args.texts.now (omega (arith, last)))
