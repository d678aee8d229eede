use Rattle.std.proofs.Common.{arith, ◌∙◌, ◌-◌, length}
use Rattle.hwdb_forms.specs.Internal.{views}
use Rattle.hwdb_forms.specs.TextViews.{row_view}
use Rattle.hwdb_forms.proofs.TextLemmas.{either_begun, either_next, either_whole, kept_begun, kept_set, view_long, views_more}
use Rattle.hwdb_forms.proofs.ViewLemmas.{none, views_length}
use Rattle.hwdb_forms.proofs.texts.either_texts.Goals as goal

pub loop-at-init : goal.loop-at-init
loop-at-init c = record {
  within = omega arith;
  long = c.put_either.ensures.long ∙ c.requires.row;
  far = c.put_either.ensures.far ∙ c.requires.other;
  done = either_begun (views c.args.tokens.now) (row_view c.args.row.items) (row_view c.args.other.items) _ (length c.args.tokens.now) (views_length c.args.tokens.now) (view_long c.args.row.items ∙ c.requires.row) c.put_either.ensures.row;
  kept = kept_begun (row_view c.args.row.items) _ (length c.args.tokens.now) _ c.put_either.ensures.row;
  left = kept_begun (row_view c.args.other.items) _ (length c.args.tokens.now) _ c.put_either.ensures.other;
}

pub loop-at-preserved : goal.loop-at-preserved
loop-at-preserved c = record {
  within = omega arith;
  long = c.put_either-in-loop-at.ensures.long ∙ c.loop-at.invariant.long;
  far = c.put_either-in-loop-at.ensures.far ∙ c.loop-at.invariant.far;
  done = either_next _ (views c.args.tokens.now) (row_view c.loop-at.row.items) (row_view c.loop-at.other.items) (row_view c.args.row.items) (row_view c.args.other.items) _ (c.loop-at.at - 1) c.loop-at.at
      (views_more c.args.tokens.now (c.loop-at.at - 1) (omega arith) none) (omega arith)
      (omega (arith, view_long c.loop-at.row.items, c.loop-at.invariant.long)) c.loop-at.invariant.kept c.loop-at.invariant.left c.put_either-in-loop-at.ensures.row c.loop-at.invariant.done;
  kept = kept_set (row_view c.loop-at.row.items) (row_view c.args.row.items) _ (c.loop-at.at - 1) c.loop-at.at _ (omega arith) c.put_either-in-loop-at.ensures.row c.loop-at.invariant.kept;
  left = kept_set (row_view c.loop-at.other.items) (row_view c.args.other.items) _ (c.loop-at.at - 1) c.loop-at.at _ (omega arith) c.put_either-in-loop-at.ensures.other c.loop-at.invariant.left;
}

pub returns-clause-row : goal.returns-clause-row
returns-clause-row c = either_whole (row_view c.loop-at.row.items) (row_view c.args.row.items) (row_view c.args.other.items) (views c.args.tokens.now) c.loop-at.at (omega arith) c.loop-at.invariant.done
