use Rattle.std.proofs.Common.{◌≡◌, ◌≤◌, drop, length, map}
use Rattle.hwdb_spec_commands.specs.FormTexts as spec
use Rattle.hwdb_forms.specs.Internal.{form_of, views}
use Rattle.hwdb_forms.specs.TextViews.{text_view}
use Rattle.hwdb_forms.proofs.texts.text_among.Given as goal

abbrev pub invariant-loop-at : goal.invariant-loop-at
invariant-loop-at l = record {
  within : l.at ≤ length l.forms;
  done : text_view l.found ≡ spec.text_among (map form_of (drop l.at l.forms)) (views l.tokens);
}

abbrev pub decreases-loop-at : goal.decreases-loop-at
decreases-loop-at l = l.at
