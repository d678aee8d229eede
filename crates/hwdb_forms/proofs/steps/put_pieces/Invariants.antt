use Rattle.std.proofs.Common.{◌≤◌, drop, length, map}
use Rattle.hwdb_spec.specs.Forms.{pieces_row}
use Rattle.hwdb_forms.specs.Internal.{IsPut, piece_of}
use Rattle.hwdb_forms.proofs.steps.put_pieces.Given as goal

abbrev pub invariant-loop-at : goal.invariant-loop-at
invariant-loop-at l = record {
  within : l.at ≤ length l.pieces;
  put : IsPut l.fn.steps.items l.steps.items l.after l.place (λ rows us. pieces_row (map piece_of (drop l.at l.pieces)) us (rows us));
}

abbrev pub decreases-loop-at : goal.decreases-loop-at
decreases-loop-at l = l.at
