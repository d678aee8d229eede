use Rattle.std.proofs.Common.{◌≡◌, ◌≤◌, ◌-◌, length, suc}
use Rattle.hwdb_spec_commands.specs.FormTexts as spec
use Rattle.hwdb_forms.specs.Internal.{views}
use Rattle.hwdb_forms.specs.TextViews.{row_view}
use Rattle.hwdb_forms.proofs.texts.counted_texts.Given as goal

abbrev pub invariant-loop-done : goal.invariant-loop-done
invariant-loop-done l = record {
  within : l.done ≤ l.count;
  long : length l.row.items ≡ suc (length l.tokens);
  row : row_view l.row.items ≡ spec.counted_texts l.set l.done (views l.tokens) (row_view l.fn.row.items);
}

abbrev pub decreases-loop-done : goal.decreases-loop-done
decreases-loop-done l = l.count - l.done
