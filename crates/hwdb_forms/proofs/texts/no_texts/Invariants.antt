use Rattle.std.proofs.Common.{◌≡◌, ◌≤◌, ◌-◌, length, None, suc}
use Rattle.std.specs.Prelude.{replicate}
use Rattle.hwdb_forms.specs.TextViews.{row_view}
use Rattle.hwdb_forms.proofs.texts.no_texts.Given as goal

abbrev pub invariant-loop-at : goal.invariant-loop-at
invariant-loop-at l = record {
  within : l.at ≤ length l.tokens;
  long : length l.row.items ≡ suc l.at;
  row : row_view l.row.items ≡ replicate (suc l.at) None;
}

abbrev pub decreases-loop-at : goal.decreases-loop-at
decreases-loop-at l = length l.tokens - l.at
