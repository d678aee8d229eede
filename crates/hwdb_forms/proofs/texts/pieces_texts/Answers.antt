use Rattle.std.proofs.Common.{arith, ◌-◌}
use Rattle.hwdb_forms.specs.Internal.{piece_of, views}
use Rattle.hwdb_forms.specs.TextViews.{row_view}
use Rattle.hwdb_forms.proofs.TextLemmas.{pieces_begun, pieces_next}
use Rattle.hwdb_forms.proofs.texts.pieces_texts.Goals as goal

pub loop-at-init : goal.loop-at-init
loop-at-init c = record {
  within = omega arith;
  long = c.requires;
  done = pieces_begun _ piece_of c.args.pieces.now (views c.args.tokens.now) (row_view c.args.row.items);
}

pub loop-at-preserved : goal.loop-at-preserved
loop-at-preserved c = record {
  within = omega arith;
  long = c.in_ok-row.ensures.long;
  done = pieces_next _ piece_of c.args.pieces.now (views c.args.tokens.now) (row_view c.args.row.items) _ _ (c.loop-at.at - 1) c.loop-at.at _ (omega arith) (omega arith) c.in_ok-row.ensures.row c.loop-at.invariant.done;
}
