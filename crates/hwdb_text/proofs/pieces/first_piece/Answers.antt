use Rattle.std.proofs.Common.{◌<◌, ◌∙◌, ◌∷◌, ◌+◌, List, ℕ, ap, arith, length, take}
use Rattle.std.proofs.lemmas.Grind.{common_steps}
use Rattle.hwdb_spec.specs.Lines.{is, pieces}
use Rattle.hwdb_text.proofs.pieces.first_piece.Goals as goal
use Rattle.hwdb_text.specs.Lemmas.Pieces.{first_is, last_is, rest_is}

pub returns-then-end-text-clause-piece : goal.returns-then-end-text-clause-piece
returns-then-end-text-clause-piece c =
    let xs = c.args.text.now in
    let n = c.end_of-end.result in
    let some : 0 < length xs = omega (arith, c.if-end-text.true) in
    first_is c.args.cut xs n some c.end_of-end.ensures.place ∙ ap (λ (l : List ℕ). take n xs ∷ pieces (is c.args.cut) l) (rest_is xs (n + 1))

pub returns-else-end-text-clause-piece : goal.returns-else-end-text-clause-piece
returns-else-end-text-clause-piece c =
    let xs = c.args.text.now in
    let some : 0 < length xs = grind (arith, common_steps) in
    last_is c.args.cut xs c.end_of-end.result some c.end_of-end.ensures.place (omega (arith, c.if-end-text.false))
