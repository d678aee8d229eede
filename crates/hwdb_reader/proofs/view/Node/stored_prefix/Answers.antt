use Rattle.std.proofs.Common.{arith, ap, refl, ◌∙◌}
use Rattle.hwdb_reader.specs.Unread.{file_at, file_of, text_of}
use Rattle.hwdb_reader.specs.Views.{tree_of}
use Rattle.hwdb_spec.specs.Format.{text_at}
use Rattle.hwdb_reader.proofs.BoundLemmas.{record_fields}
use Rattle.hwdb_reader.proofs.ViewLemmas.{placed_inside, placed_prefix, prefix_read}
use Rattle.hwdb_reader.proofs.view.Node.stored_prefix.Goals as goal

pub u64_at-requires : goal.u64_at-requires
u64_at-requires c =
    let n = c.args.self.now in
    omega (arith, record_fields n.frame.sizes n.bytes.now n.offset n.frame.node_fields, placed_inside _ _ _ _ n.placed)

pub invariant_of-result : goal.invariant_of-result
invariant_of-result c = let n = c.args.self.now in record { inside = rw c.u64_at.ensures (placed_prefix _ _ _ _ n.placed) }

pub returns-clause-text : goal.returns-clause-text
unfolding text_of tree_of
returns-clause-text c =
    let n = c.args.self.now in
    ap (text_at n.bytes.now) c.u64_at.ensures ∙ prefix_read _ _ _ _ n.placed

pub returns-clause-file : goal.returns-clause-file
unfolding file_of file_at
returns-clause-file c = refl
