use Rattle.std.proofs.Common.{arith, sym}
use Rattle.hwdb_reader.specs.Views.{tree_of}
use Rattle.hwdb_reader.proofs.BoundLemmas.{record_fields}
use Rattle.hwdb_reader.proofs.ViewLemmas.{placed_inside, children_number}
use Rattle.hwdb_reader.proofs.view.Inside.children.Goals as goal

pub overflow_add-result : goal.overflow_add-result
overflow_add-result c =
    let n = c.args.self.now.node in
    omega (arith, record_fields n.frame.sizes n.bytes.now n.offset n.frame.node_fields, placed_inside _ _ _ _ n.placed)

pub bounds-self-self : goal.bounds-self-self
bounds-self-self c =
    let n = c.args.self.now.node in
    omega (arith, record_fields n.frame.sizes n.bytes.now n.offset n.frame.node_fields, placed_inside _ _ _ _ n.placed)

pub returns : goal.returns
unfolding tree_of
returns c = sym (children_number _ _ _ _ c.args.self.now.node.placed)
