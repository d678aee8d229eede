use Rattle.std.proofs.Common.{◌-◌, ◌+◌, ◌∙◌, sym, arith}
use Rattle.hwdb_reader.proofs.passes.NodeLemmas.{children_begin, child_there, child_taken}
use Rattle.hwdb_reader.proofs.passes.children.children_height.Goals as goal

pub loop-i-init : goal.loop-i-init
loop-i-init c = record {
  within = omega arith;
  stand = λ file at p stand. children_begin c.args.frame.sizes file c.args.offsets.now c.args.heights.now c.args.n c.args.count 0 256 (at + c.args.off) c.requires.enough stand;
}

pub loop-i-preserved : goal.loop-i-preserved
loop-i-preserved c =
    let within = c.loop-i.invariant.within in
    let some = c.loop-i-test.true in
    let high = c.max-height.ensures in
    record {
      within = omega (arith, within);
      stand = λ file at p stand.
          let there =
          child_there c.args.frame.sizes file c.args.piece.now at c.args.off c.child_entry_at-entry.result (c.loop-i.i - 1) _ p c.child_entry_at-entry.ensures.place c.child_entry_at-entry.ensures.room
          (sym c.u64_at.ensures ∙ c.if-u64_at-offsets.false) in
          child_taken c.args.frame.sizes file c.args.offsets.now c.args.heights.now (c.args.n - c.args.count) c.loop-i.height c.max-height.result c.loop-i.above _ (at + c.args.off) c.loop-i.i (c.loop-i.i - 1) c.args.count
          (omega (arith, some)) within (omega (arith, high)) (omega (arith, high)) there.0 (let low = c.if-byte-above.false in omega (arith, low)) there.1 (c.loop-i.invariant.stand file at p stand);
    }
