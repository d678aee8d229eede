use Rattle.std.proofs.Common.{arith, map, ◌-◌}
use Rattle.hwdb_forms.specs.Internal.{piece_of, views}
use Rattle.hwdb_forms.specs.TextViews.{row_view}
use Rattle.hwdb_forms.proofs.TextLemmas.{field_begun, field_next}
use Rattle.hwdb_forms.proofs.texts.field_texts.Goals as goal

pub loop-at-init : goal.loop-at-init
loop-at-init c = record {
  within = omega arith;
  long = c.in_ok-all.ensures.long;
  done = field_begun _ (λ way. map piece_of way.now) c.args.ways.now (views c.args.tokens.now) (row_view c.args.row.now) _ c.in_ok-all.ensures.row;
}

pub loop-at-preserved : goal.loop-at-preserved
loop-at-preserved c = record {
  within = omega arith;
  long = c.either_texts-all.ensures.long;
  done = field_next _ (λ way. map piece_of way.now) c.args.ways.now (views c.args.tokens.now) (row_view c.args.row.now) _ _ _ _ (c.loop-at.at - 1) c.loop-at.at _ (omega arith) (omega arith)
      c.in_ok-copied_row.ensures.row c.in_ok-one.ensures.row c.either_texts-all.ensures.row c.loop-at.invariant.done;
}
