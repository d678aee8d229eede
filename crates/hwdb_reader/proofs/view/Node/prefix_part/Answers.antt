use Rattle.std.proofs.Common.{◌∙◌, ◌+◌, ◌≤◌, sym, ap, arith, subst, take, drop, length}
use Rattle.hwdb_reader.specs.Views.{tree_of}
use Rattle.hwdb_spec.specs.Format.{text_at, prefix_off}
use Rattle.hwdb_reader.proofs.BoundLemmas.{record_fields}
use Rattle.hwdb_reader.proofs.StringLemmas.{front_within, text_further}
use Rattle.hwdb_reader.proofs.ViewLemmas.{placed_inside, prefix_ends, prefix_read}
use Rattle.hwdb_reader.proofs.view.Node.prefix_part.Goals as goal

pub u64_at-requires : goal.u64_at-requires
u64_at-requires c =
    let n = c.args.self.now in
    omega (arith, record_fields n.frame.sizes n.bytes.now n.offset n.frame.node_fields, placed_inside _ _ _ _ n.placed)

pub overflow_add-u64_at : goal.overflow_add-u64_at
unfolding tree_of
overflow_add-u64_at c =
    let n = c.args.self.now in
    omega (arith, c.u64_at.ensures, c.requires, prefix_ends n.frame.sizes n.bytes.now n.levels n.offset n.placed)

pub text_front-requires : goal.text_front-requires
unfolding tree_of
text_front-requires c =
    let n = c.args.self.now in
    omega (arith, c.u64_at.ensures, c.requires, prefix_ends n.frame.sizes n.bytes.now n.levels n.offset n.placed)

pub returns-clause-part : goal.returns-clause-part
unfolding tree_of
returns-clause-part c =
    let n = c.args.self.now in
    let read = prefix_read n.frame.sizes n.bytes.now n.levels n.offset n.placed in
    c.text_front.ensures
    ∙ ap (λ i. take c.args.most (text_at n.bytes.now (i + c.args.at))) c.u64_at.ensures
    ∙ ap (take c.args.most) (sym (text_further n.bytes.now (prefix_off n.bytes.now n.offset) c.args.at (subst (λ t. c.args.at ≤ length t) (sym read) c.requires)) ∙ ap (drop c.args.at) read)

pub returns-clause-fits : goal.returns-clause-fits
unfolding tree_of
returns-clause-fits c =
    let n = c.args.self.now in
    let i = prefix_off n.bytes.now n.offset + c.args.at in
    let room = prefix_ends n.frame.sizes n.bytes.now n.levels n.offset n.placed in
    omega (arith, c.u64_at.ensures, c.requires, room, front_within n.bytes.now i c.args.most (omega (arith, c.requires, room)), ap length c.text_front.ensures, ap (λ j. length (take c.args.most (text_at n.bytes.now (j + c.args.at)))) c.u64_at.ensures)
