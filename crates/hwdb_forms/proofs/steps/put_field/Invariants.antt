use Rattle.std.proofs.Common.{◌<◌, drop, length, map}
use Rattle.hwdb_spec.specs.Forms.{field_row}
use Rattle.hwdb_forms.specs.Internal.{IsPut, piece_of}
use Rattle.hwdb_forms.proofs.steps.put_field.Given as goal

abbrev pub invariant-loop-at : goal.invariant-loop-at
invariant-loop-at l = record {
  within : l.at < length l.field;
  put : IsPut l.fn.steps.items l.steps.items l.after l.place (λ rows us. field_row (map (λ way. map piece_of way.now) (drop l.at l.field)) us (rows us));
}

abbrev pub decreases-loop-at : goal.decreases-loop-at
decreases-loop-at l = l.at
