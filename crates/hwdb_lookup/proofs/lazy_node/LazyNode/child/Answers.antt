use Rattle.hwdb_lookup.proofs.PartsLemmas.{child_there}
use Rattle.hwdb_lookup.proofs.lazy_node.LazyNode.child.Goals as goal

pub returns : goal.returns
returns c file head =
    let n = c.args.self in
    child_there n.frame.sizes file n.bytes.now n.off c.child_entry_at-entry.result c.args.i c.u64_at.result head.part c.child_entry_at-entry.ensures.place c.child_entry_at-entry.ensures.room c.u64_at.ensures
