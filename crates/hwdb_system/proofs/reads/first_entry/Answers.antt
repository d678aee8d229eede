use Rattle.std.proofs.Common.{◌<◌, ◌∙◌, ◌∷◌, ◌+◌, List, ℕ, ap, arith, length, take}
use Rattle.std.proofs.lemmas.Grind.{common_steps}
use Rattle.hwdb_system.specs.Raw.{entries}
use Rattle.hwdb_system.proofs.EntryLemmas.{first_entry_is, last_entry_is}
use Rattle.hwdb_system.proofs.reads.first_entry.Goals as goal
use Rattle.hwdb_text.specs.Lemmas.Pieces.{rest_is}

pub returns-then-end-listing-clause-entry : goal.returns-then-end-listing-clause-entry
returns-then-end-listing-clause-entry c =
    let xs = c.args.listing.now in
    let n = c.end_of-end.result in
    let some : 0 < length xs = omega (arith, c.if-end-listing.true) in
    first_entry_is xs n some c.end_of-end.ensures.place ∙ ap (λ (l : List ℕ). take n xs ∷ entries l) (rest_is xs (n + 1))

pub returns-else-end-listing-clause-entry : goal.returns-else-end-listing-clause-entry
returns-else-end-listing-clause-entry c =
    let xs = c.args.listing.now in
    let some : 0 < length xs = grind (arith, common_steps) in
    last_entry_is xs c.end_of-end.result some c.end_of-end.ensures.place (omega (arith, c.if-end-listing.false))
