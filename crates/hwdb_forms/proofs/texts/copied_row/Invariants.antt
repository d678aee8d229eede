use Rattle.std.proofs.Common.{◌≡◌, drop, ◌++◌}
use Rattle.hwdb_forms.specs.TextViews.{row_view}
use Rattle.hwdb_forms.proofs.texts.copied_row.Given as goal

abbrev pub invariant-loop-text : goal.invariant-loop-text
invariant-loop-text l = row_view l.copy.items ++ row_view (drop l.text-index l.row) ≡ row_view l.row
