use Rattle.std.proofs.Common.{◌<◌, refl, subst}
use Rattle.hwdb_reader.specs.Unread.{file_at}
use Rattle.hwdb_reader.specs.Views.{tree_of}
use Rattle.hwdb_spec.specs.Format.{children_count}
use Rattle.hwdb_reader.proofs.ViewLemmas.{placed_levels, placed_inside, children_number, child_read, child_placed}
use Rattle.hwdb_reader.proofs.view.Inside.child_in_file.Goals as goal

pub child_entry_at-entry-requires-clause-inside : goal.child_entry_at-entry-requires-clause-inside
child_entry_at-entry-requires-clause-inside c = placed_inside _ _ _ _ c.args.self.now.node.placed

pub child_entry_at-entry-requires-clause-below : goal.child_entry_at-entry-requires-clause-below
unfolding tree_of
child_entry_at-entry-requires-clause-below c = subst (λ m. c.args.i < m) (children_number _ _ _ _ c.args.self.now.node.placed) c.requires

pub overflow_sub-result : goal.overflow_sub-result
overflow_sub-result c = placed_levels _ _ _ _ c.args.self.now.node.placed

pub invariant_of-result : goal.invariant_of-result
unfolding tree_of
invariant_of-result c =
    let n = c.args.self.now.node in
    let lt : c.args.i < children_count n.bytes.now n.offset = subst (λ m. c.args.i < m) (children_number _ _ _ _ n.placed) c.requires in
    record { placed = rw (c.u64_at.ensures, c.child_entry_at-entry.ensures.place) (child_placed _ _ _ _ n.placed n.frame.node_fields c.args.i lt); starry = n.starry }

pub returns-clause-child : goal.returns-clause-child
unfolding tree_of
returns-clause-child c =
    let n = c.args.self.now.node in
    let lt : c.args.i < children_count n.bytes.now n.offset = subst (λ m. c.args.i < m) (children_number _ _ _ _ n.placed) c.requires in
    rw (c.u64_at.ensures, c.child_entry_at-entry.ensures.place) (child_read _ _ _ _ n.placed c.args.i lt)

pub returns-clause-file : goal.returns-clause-file
unfolding file_at
returns-clause-file c = refl
