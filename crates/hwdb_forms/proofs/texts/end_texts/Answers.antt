use Rattle.std.proofs.Common.{arith, ◌∙◌, ◌-◌, length}
use Rattle.hwdb_forms.specs.Internal.{views}
use Rattle.hwdb_forms.specs.TextViews.{row_view}
use Rattle.hwdb_forms.proofs.TextLemmas.{end_begun, end_next, end_whole, some_put, view_long, views_more}
use Rattle.hwdb_forms.proofs.ViewLemmas.{views_length}
use Rattle.hwdb_forms.proofs.texts.end_texts.Goals as goal

pub loop-at-init : goal.loop-at-init
loop-at-init c = record {
  within = omega arith;
  long = c.put.ensures.long ∙ c.in_ok-row.ensures.long;
  done = end_begun (views c.args.tokens.now) (row_view c.in_ok-row.row.items) _ (length c.args.tokens.now) (views_length c.args.tokens.now) (view_long c.in_ok-row.row.items ∙ c.in_ok-row.ensures.long)
      (some_put _ _ (length c.args.tokens.now) c.new.result.items c.new.ensures.items c.put.ensures.row);
}

pub loop-at-preserved : goal.loop-at-preserved
loop-at-preserved c = record {
  within = omega arith;
  long = c.in_ok-put_end.ensures.long ∙ c.loop-at.invariant.long;
  done = end_next _ (views c.args.tokens.now) (row_view c.loop-at.row.items) _ (c.loop-at.at - 1) c.loop-at.at (views_more c.args.tokens.now (c.loop-at.at - 1) (omega arith) _) (omega arith)
      (omega (arith, view_long c.loop-at.row.items, c.loop-at.invariant.long)) c.in_ok-put_end.ensures.row c.loop-at.invariant.done;
}

pub returns-clause-row : goal.returns-clause-row
returns-clause-row c = end_whole (row_view c.loop-at.row.items) (views c.args.tokens.now) c.loop-at.at (omega arith) c.loop-at.invariant.done
