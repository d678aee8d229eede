use Rattle.std.proofs.Common.{◌<◌, ap, sym, subst, Some}
use Rattle.hwdb_reader.specs.Views.{tree_of}
use Rattle.hwdb_reader.specs.Unread.{file_at}
use Rattle.hwdb_spec.specs.Format.{values_count}
use Rattle.hwdb_reader.proofs.ViewLemmas.{placed_inside, values_number, value_read, value_placed}
use Rattle.hwdb_reader.proofs.view.Inside.unread.Goals as goal

pub value_entry_at-entry-requires-clause-inside : goal.value_entry_at-entry-requires-clause-inside
value_entry_at-entry-requires-clause-inside c = placed_inside _ _ _ _ c.args.self.now.node.placed

pub value_entry_at-entry-requires-clause-below : goal.value_entry_at-entry-requires-clause-below
unfolding tree_of
value_entry_at-entry-requires-clause-below c = subst (λ m. c.args.i < m) (values_number _ _ _ _ c.args.self.now.node.placed) c.requires

pub read_unread-requires-clause-sound : goal.read_unread-requires-clause-sound
unfolding tree_of
read_unread-requires-clause-sound c =
    let n = c.args.self.now.node in
    let lt : c.args.i < values_count n.bytes.now n.offset = subst (λ m. c.args.i < m) (values_number _ _ _ _ c.args.self.now.node.placed) c.requires in
    rw c.value_entry_at-entry.ensures.place (value_placed _ _ _ _ n.placed c.args.i lt)

pub returns-clause-value : goal.returns-clause-value
unfolding tree_of
returns-clause-value c =
    let n = c.args.self.now.node in
    let lt : c.args.i < values_count n.bytes.now n.offset = subst (λ m. c.args.i < m) (values_number _ _ _ _ c.args.self.now.node.placed) c.requires in
    rw (value_read _ _ _ _ n.placed c.args.i lt) (ap Some (sym (rw c.value_entry_at-entry.ensures.place at c.read_unread.ensures.value)))

pub returns-clause-file : goal.returns-clause-file
unfolding file_at
returns-clause-file c = c.read_unread.ensures.file
