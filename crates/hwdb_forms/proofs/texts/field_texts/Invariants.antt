use Rattle.std.proofs.Common.{◌≡◌, ◌≤◌, drop, length, map, suc}
use Rattle.hwdb_spec_commands.specs.FormTexts as spec
use Rattle.hwdb_forms.specs.Internal.{piece_of, views}
use Rattle.hwdb_forms.specs.TextViews.{row_view}
use Rattle.hwdb_forms.proofs.texts.field_texts.Given as goal

abbrev pub invariant-loop-at : goal.invariant-loop-at
invariant-loop-at l = record {
  within : l.at ≤ length l.ways;
  long : length l.all.items ≡ suc (length l.tokens);
  done : row_view l.all.items ≡ spec.field_texts (map (λ way. map piece_of way.now) (drop l.at l.ways)) (views l.tokens) (row_view l.row);
}

abbrev pub decreases-loop-at : goal.decreases-loop-at
decreases-loop-at l = l.at
