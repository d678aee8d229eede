use Rattle.std.proofs.Common.{arith, ◌-◌}
use Rattle.hwdb_forms.specs.Internal.{views}
use Rattle.hwdb_forms.specs.TextViews.{row_view}
use Rattle.hwdb_forms.proofs.TextLemmas.{fixed_begun, fixed_next}
use Rattle.hwdb_forms.proofs.texts.fixed_texts.Goals as goal

pub loop-at-init : goal.loop-at-init
loop-at-init c = record {
  within = omega arith;
  long = c.requires;
  done = fixed_begun c.args.bytes.now (views c.args.tokens.now) (row_view c.args.row.items);
}

pub loop-at-preserved : goal.loop-at-preserved
loop-at-preserved c = record {
  within = omega arith;
  long = c.in_ok-row.ensures.long;
  done = fixed_next c.args.bytes.now (views c.args.tokens.now) (row_view c.args.row.items) _ _ (c.loop-at.at - 1) c.loop-at.at _ (omega arith) (omega arith) c.in_ok-row.ensures.row c.loop-at.invariant.done;
}
