use Rattle.std.proofs.Common.{arith, add-one, ◌+◌}
use Rattle.hwdb_forms.specs.Internal.{views}
use Rattle.hwdb_forms.specs.TextViews.{row_view}
use Rattle.hwdb_forms.proofs.TextLemmas.{counted_begun, counted_next}
use Rattle.hwdb_forms.proofs.texts.counted_texts.Goals as goal

pub loop-done-init : goal.loop-done-init
loop-done-init c = record {
  within = omega arith;
  long = c.requires;
  row = counted_begun c.args.set (views c.args.tokens.now) (row_view c.args.row.items);
}

pub loop-done-preserved : goal.loop-done-preserved
loop-done-preserved c = record {
  within = omega arith;
  long = c.in_ok-row.ensures.long;
  row = counted_next c.args.set (views c.args.tokens.now) (row_view c.args.row.items) _ _ c.loop-done.done (c.loop-done.done + 1) (add-one c.loop-done.done) c.in_ok-row.ensures.row c.loop-done.invariant.row;
}
