use Rattle.std.proofs.Common.{arith}
use Rattle.hwdb_reader.specs.Views.{tree_of}
use Rattle.hwdb_reader.proofs.WholeLemmas.{text_of_layout, inside_of_layout, tree_of_layout}
use Rattle.hwdb_reader.proofs.reopened.reopen.Goals as goal

pub invariant_of-result : goal.invariant_of-result
invariant_of-result c =
    let l = c.frame_of-frame.result.sizes in
    let e = c.frame_of-frame.ensures in
    let b = c.args.bytes.now in
    record { placed = ∣ record { from = l.nodes; text = text_of_layout b l e c.requires.0 c.requires.1; inside = inside_of_layout b l e c.requires.0 c.requires.1; small = omega arith } ∣₁; starry = c.no_stars.ensures.stars c.args.bytes.now }

pub returns : goal.returns
unfolding tree_of
returns c = λ t h. tree_of_layout c.args.bytes.now c.frame_of-frame.result.sizes c.frame_of-frame.ensures t h
