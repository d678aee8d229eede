use Rattle.std.proofs.Common.{◌≡◌, ◌≤◌, drop, length, map, suc}
use Rattle.hwdb_spec_commands.specs.FormTexts as spec
use Rattle.hwdb_forms.specs.Internal.{piece_of, views}
use Rattle.hwdb_forms.specs.TextViews.{row_view}
use Rattle.hwdb_forms.proofs.texts.pieces_texts.Given as goal

abbrev pub invariant-loop-at : goal.invariant-loop-at
invariant-loop-at l = record {
  within : l.at ≤ length l.pieces;
  long : length l.row.items ≡ suc (length l.tokens);
  done : row_view l.row.items ≡ spec.pieces_texts (map piece_of (drop l.at l.pieces)) (views l.tokens) (row_view l.fn.row.items);
}

abbrev pub decreases-loop-at : goal.decreases-loop-at
decreases-loop-at l = l.at
