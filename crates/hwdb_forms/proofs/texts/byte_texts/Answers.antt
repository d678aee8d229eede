use Rattle.std.proofs.Common.{arith, ◌∙◌, ◌-◌, length}
use Rattle.hwdb_spec_commands.specs.FormTexts as spec
use Rattle.hwdb_forms.specs.Internal.{views}
use Rattle.hwdb_forms.specs.TextViews.{row_view}
use Rattle.hwdb_forms.proofs.TextLemmas.{byte_begun, byte_next, ended, kept_begun, kept_set, view_long, views_more}
use Rattle.hwdb_forms.proofs.ViewLemmas.{views_length}
use Rattle.hwdb_forms.proofs.texts.byte_texts.Goals as goal

pub loop-at-init : goal.loop-at-init
loop-at-init c = record {
  within = omega arith;
  long = c.take_at-after.ensures.long ∙ c.requires;
  done = byte_begun c.args.set (views c.args.tokens.now) (row_view c.args.row.items) _ (length c.args.tokens.now) (views_length c.args.tokens.now) (view_long c.args.row.items ∙ c.requires) c.take_at-after.ensures.row;
  kept = kept_begun (row_view c.args.row.items) _ (length c.args.tokens.now) _ c.take_at-after.ensures.row;
  after = c.take_at-after.ensures.text;
}

pub loop-at-preserved : goal.loop-at-preserved
loop-at-preserved c =
    record {
      within = omega arith;
      long = c.in_ok-after.ensures.long ∙ c.loop-at.invariant.long;
      done = byte_next c.args.set _ (views c.args.tokens.now) (row_view c.loop-at.row.items) (row_view c.args.row.items) _ (c.loop-at.at - 1) c.loop-at.at _ (views_more c.args.tokens.now (c.loop-at.at - 1) (omega arith) _) (omega arith)
          (omega (arith, view_long c.loop-at.row.items, c.loop-at.invariant.long)) c.loop-at.invariant.kept c.loop-at.invariant.after c.in_ok-after.ensures.row c.loop-at.invariant.done;
      kept = kept_set (row_view c.loop-at.row.items) (row_view c.args.row.items) _ (c.loop-at.at - 1) c.loop-at.at _ (omega arith) c.in_ok-after.ensures.row c.loop-at.invariant.kept;
      after = c.in_ok-after.ensures.here ∙ c.loop-at.invariant.kept (c.loop-at.at - 1) (omega arith);
    }

pub returns-clause-row : goal.returns-clause-row
returns-clause-row c = ended (spec.byte_texts c.args.set) (row_view c.loop-at.row.items) (row_view c.args.row.items) (views c.args.tokens.now) c.loop-at.at (omega arith) c.loop-at.invariant.done
