use Rattle.std.proofs.Common.{arith, sym, ◌∙◌}
use Rattle.hwdb_reader.specs.Views.{tree_of}
use Rattle.hwdb_reader.proofs.BoundLemmas.{record_fields}
use Rattle.hwdb_reader.proofs.ViewLemmas.{placed_inside, values_number}
use Rattle.hwdb_reader.proofs.view.Inside.values.Goals as goal

pub overflow_add-self : goal.overflow_add-self
overflow_add-self c =
    let n = c.args.self.now.node in
    omega (arith, record_fields n.frame.sizes n.bytes.now n.offset n.frame.node_fields, placed_inside _ _ _ _ n.placed)

pub u64_at-requires : goal.u64_at-requires
u64_at-requires c =
    let n = c.args.self.now.node in
    omega (arith, record_fields n.frame.sizes n.bytes.now n.offset n.frame.node_fields, placed_inside _ _ _ _ n.placed)

pub returns : goal.returns
unfolding tree_of
returns c = c.u64_at.ensures ∙ sym (values_number _ _ _ _ c.args.self.now.node.placed)
