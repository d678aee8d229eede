use Rattle.std.proofs.Common.{arith, refl, ◌∙◌, ◌-◌, length}
use Rattle.hwdb_spec_commands.specs.FormTexts as spec
use Rattle.hwdb_forms.specs.Internal.{views}
use Rattle.hwdb_forms.specs.TextViews.{row_view}
use Rattle.hwdb_forms.proofs.TextLemmas.{ended, kept_set, many_begun, many_next, view_long, views_more}
use Rattle.hwdb_forms.proofs.ViewLemmas.{views_length}
use Rattle.hwdb_forms.proofs.texts.many_texts.Goals as goal

pub loop-at-init : goal.loop-at-init
loop-at-init c = record {
  within = omega arith;
  long = c.requires;
  done = many_begun c.args.set (views c.args.tokens.now) (row_view c.args.row.items) (length c.args.tokens.now) (views_length c.args.tokens.now) (view_long c.args.row.items ∙ c.requires);
  kept = λ k h. refl;
}

pub loop-at-preserved : goal.loop-at-preserved
loop-at-preserved c = record {
  within = omega arith;
  long = c.in_ok-put_many.ensures.long ∙ c.loop-at.invariant.long;
  done = many_next c.args.set _ (views c.args.tokens.now) (row_view c.loop-at.row.items) (row_view c.args.row.items) _ (c.loop-at.at - 1) c.loop-at.at (views_more c.args.tokens.now (c.loop-at.at - 1) (omega arith) _) (omega arith)
      (omega (arith, view_long c.loop-at.row.items, c.loop-at.invariant.long)) c.loop-at.invariant.kept c.in_ok-put_many.ensures.row c.loop-at.invariant.done;
  kept = kept_set (row_view c.loop-at.row.items) (row_view c.args.row.items) _ (c.loop-at.at - 1) c.loop-at.at _ (omega arith) c.in_ok-put_many.ensures.row c.loop-at.invariant.kept;
}

pub returns-clause-row : goal.returns-clause-row
returns-clause-row c = ended (spec.many_texts c.args.set) (row_view c.loop-at.row.items) (row_view c.args.row.items) (views c.args.tokens.now) c.loop-at.at (omega arith) c.loop-at.invariant.done
