use Rattle.std.proofs.Common.{ap, arith, map, ◌∙◌, ◌-◌}
use Rattle.hwdb_forms.specs.Internal.{piece_of, views}
use Rattle.hwdb_forms.specs.TextViews.{row_view}
use Rattle.hwdb_forms.proofs.TextLemmas.{fields_begun, fields_next}
use Rattle.hwdb_forms.proofs.texts.fields_texts.Goals as goal

pub loop-at-init : goal.loop-at-init
loop-at-init c = record {
  within = omega arith;
  long = c.in_ok-row.ensures.long;
  done = fields_begun _ (λ field. map (λ way. map piece_of way.now) field.now) c.args.fields.now (views c.args.tokens.now) _ c.in_ok-row.ensures.row;
}

pub loop-at-preserved : goal.loop-at-preserved
loop-at-preserved c = record {
  within = omega arith;
  long = c.in_ok-row-2.ensures.long;
  done = fields_next _ (λ field. map (λ way. map piece_of way.now) field.now) c.args.fields.now (views c.args.tokens.now) (row_view c.deref.result.now) _ (c.loop-at.at - 1) c.loop-at.at _ (omega arith) (omega arith) c.in_ok-row-2.ensures.row
      (ap row_view c.deref.ensures.value ∙ c.loop-at.invariant.done);
}
