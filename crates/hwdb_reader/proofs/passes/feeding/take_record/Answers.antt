use Rattle.std.proofs.Common.{◌-◌, ◌+◌, refl, sym, subst, set, slice_index, arith}
use Rattle.hwdb_spec.specs.Format.{record_end}
use Rattle.hwdb_spec.specs.declared.Layout.{Layout}
use Rattle.hwdb_reader.specs.Passes.Views.{Stand, pending}
use Rattle.hwdb_reader.proofs.passes.NodeLemmas.{record_taken, row_taken}
use Rattle.hwdb_reader.proofs.passes.feeding.take_record.Goals as goal

pub returns-clause-stand : goal.returns-clause-stand
returns-clause-stand c file is p stand =
    let l = c.args.o.frame.sizes in
    let piece = c.args.piece.now in
    let offsets = c.args.offsets.now in
    let heights = c.args.heights.now in
    let last = c.args.n - slice_index piece (c.args.off + 8) in
    let below = c.if-last-offsets.false in
    let under = c.if-last-heights.false in
    let old = subst (λ (k : Layout). Stand k file (pending offsets heights c.args.n) (c.args.at + c.args.off)) (sym is.layout) stand in
    let children = c.in-Some.ensures file c.args.at p old in
    let values = c.are_values.ensures c.if-not-are_values.false file c.args.at is p in
    subst (λ (k : Layout). Stand k file (pending (set offsets last (c.args.at + c.args.off)) (set heights last (c.in-Some.height + 1)) (last + 1)) (c.args.at + record_end l piece c.args.off)) is.layout
    (row_taken l file offsets heights last (last + 1) (c.args.at + c.args.off) (c.in-Some.height + 1) (c.args.at + record_end l piece c.args.off) (omega (arith, below)) (omega (arith, under)) (omega arith)
    (record_taken c.args.o file piece c.args.at c.args.off c.u64_at.result c.u64_at-values.result _ c.in-Some.height (c.in-Some.height + 1) (pending offsets heights last) is p c.args.o.frame.node_fields
    c.requires.inside c.u64_at.ensures (c.has.ensures.0 c.if-not-has.false) c.u64_at-values.ensures refl values children (omega arith)))
