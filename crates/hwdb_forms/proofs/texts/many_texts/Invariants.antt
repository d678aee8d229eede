use Rattle.std.proofs.Common.{◌≡◌, ◌<◌, ◌≤◌, ℕ, drop, get_or, length, None, suc}
use Rattle.hwdb_spec_commands.specs.FormTexts as spec
use Rattle.hwdb_forms.specs.Internal.{views}
use Rattle.hwdb_forms.specs.TextViews.{row_view}
use Rattle.hwdb_forms.proofs.texts.many_texts.Given as goal

abbrev pub invariant-loop-at : goal.invariant-loop-at
invariant-loop-at l = record {
  within : l.at ≤ length l.tokens;
  long : length l.row.items ≡ suc (length l.tokens);
  done : drop l.at (row_view l.row.items) ≡ spec.many_texts l.set (drop l.at (views l.tokens)) (drop l.at (row_view l.fn.row.items));
  kept : (k : ℕ) → k < l.at → get_or (row_view l.row.items) k None ≡ get_or (row_view l.fn.row.items) k None;
}

abbrev pub decreases-loop-at : goal.decreases-loop-at
decreases-loop-at l = l.at
