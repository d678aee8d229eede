use Rattle.std.proofs.Common.{◌<◌, ap, sym, subst, Some}
use Rattle.std.specs.Coded.{le_prop}
use Rattle.std.proofs.Math.Logic.{∥∥₁_elim}
use Rattle.hwdb_reader.specs.Views.{tree_of}
use Rattle.hwdb_spec.specs.Format.{values_count, value_at, IsValue}
use Rattle.hwdb_reader.proofs.ViewLemmas.{placed_inside, values_number, value_read, value_placed}
use Rattle.hwdb_reader.proofs.view.Inside.origin.Goals as goal

pub value_entry_at-entry-requires-clause-inside : goal.value_entry_at-entry-requires-clause-inside
value_entry_at-entry-requires-clause-inside c = placed_inside _ _ _ _ c.args.self.now.node.placed

pub value_entry_at-entry-requires-clause-below : goal.value_entry_at-entry-requires-clause-below
unfolding tree_of
value_entry_at-entry-requires-clause-below c = subst (λ m. c.args.i < m) (values_number _ _ _ _ c.args.self.now.node.placed) c.requires

pub returns-clause-priority : goal.returns-clause-priority
unfolding tree_of
returns-clause-priority c =
    let n = c.args.self.now.node in
    let lt : c.args.i < values_count n.bytes.now n.offset = subst (λ m. c.args.i < m) (values_number _ _ _ _ n.placed) c.requires in
    rw (value_read _ _ _ _ n.placed c.args.i lt) (ap Some (sym (rw c.value_entry_at-entry.ensures.place at c.read_origin.ensures.priority)))

pub returns-clause-line : goal.returns-clause-line
unfolding tree_of
returns-clause-line c =
    let n = c.args.self.now.node in
    let lt : c.args.i < values_count n.bytes.now n.offset = subst (λ m. c.args.i < m) (values_number _ _ _ _ n.placed) c.requires in
    rw (value_read _ _ _ _ n.placed c.args.i lt) (ap Some (sym (rw c.value_entry_at-entry.ensures.place at c.read_origin.ensures.line)))

pub returns-clause-positive : goal.returns-clause-positive
unfolding tree_of value_at
returns-clause-positive c =
    let n = c.args.self.now.node in
    let lt : c.args.i < values_count n.bytes.now n.offset = subst (λ m. c.args.i < m) (values_number _ _ _ _ n.placed) c.requires in
    let sound : ∥ IsValue n.frame.sizes n.bytes.now c.value_entry_at-entry.result ∥₁ = rw c.value_entry_at-entry.ensures.place (value_placed _ _ _ _ n.placed c.args.i lt) in
    ∥∥₁_elim sound le_prop (λ v. rw c.read_origin.ensures.priority v.priority)
