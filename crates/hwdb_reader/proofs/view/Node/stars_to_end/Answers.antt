use Rattle.std.proofs.Common.{◌∙◌, ◌+◌, ◌≤◌, sym, ap, arith, subst, drop, length}
use Rattle.hwdb_reader.specs.Views.{tree_of}
use Rattle.hwdb_spec.specs.Format.{text_at, prefix_off}
use Rattle.hwdb_reader.proofs.BoundLemmas.{record_fields}
use Rattle.hwdb_reader.proofs.StringLemmas.{stars_are_text, text_further}
use Rattle.hwdb_reader.proofs.ViewLemmas.{placed_inside, prefix_ends, prefix_read}
use Rattle.hwdb_reader.proofs.view.Node.stars_to_end.Goals as goal

pub u64_at-requires : goal.u64_at-requires
u64_at-requires c =
    let n = c.args.self.now in
    omega (arith, record_fields n.frame.sizes n.bytes.now n.offset n.frame.node_fields, placed_inside _ _ _ _ n.placed)

pub overflow_add-from : goal.overflow_add-from
unfolding tree_of
overflow_add-from c =
    let n = c.args.self.now in
    omega (arith, c.u64_at.ensures, c.requires, prefix_ends n.frame.sizes n.bytes.now n.levels n.offset n.placed)

pub returns-clause-rest : goal.returns-clause-rest
unfolding tree_of
returns-clause-rest c =
    let n = c.args.self.now in
    let b = n.bytes.now in
    let from = c.u64_at.result + c.args.at in
    let read = prefix_read n.frame.sizes b n.levels n.offset n.placed in
    stars_are_text b from n.stars.end (omega (arith, c.if-end-from.false)) (omega (arith, c.if-end-self.false))
    (λ k low high. n.starry k (omega (arith, low, c.if-from-first.false)) high) c.if-self-end-ne0.false
    ∙ ap (λ i. text_at b (i + c.args.at)) c.u64_at.ensures
    ∙ sym (text_further b (prefix_off b n.offset) c.args.at (subst (λ t. c.args.at ≤ length t) (sym read) c.requires)) ∙ ap (drop c.args.at) read
