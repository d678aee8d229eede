use Rattle.std.proofs.Common.{arith, ap, ◌∙◌}
use Rattle.hwdb_reader.specs.Views.{tree_of}
use Rattle.hwdb_spec.specs.Format.{text_at}
use Rattle.hwdb_reader.proofs.BoundLemmas.{record_fields}
use Rattle.hwdb_reader.proofs.ViewLemmas.{placed_inside, placed_prefix, prefix_read}
use Rattle.hwdb_reader.proofs.view.Node.prefix.Goals as goal

pub u64_at-requires : goal.u64_at-requires
u64_at-requires c =
    let n = c.args.self.now in
    omega (arith, record_fields n.frame.sizes n.bytes.now n.offset n.frame.node_fields, placed_inside _ _ _ _ n.placed)

pub text-requires : goal.text-requires
text-requires c = let n = c.args.self.now in rw c.u64_at.ensures (placed_prefix _ _ _ _ n.placed)

pub returns : goal.returns
unfolding tree_of
returns c =
    let n = c.args.self.now in
    c.text.ensures ∙ ap (text_at n.bytes.now) c.u64_at.ensures ∙ prefix_read _ _ _ _ n.placed
