use Rattle.std.proofs.Common.{◌≡◌, ◌++◌, ◌∷◌, flat_map}
use Rattle.hwdb_spec.specs.Lines.{is, pieces}
use Rattle.hwdb_text.specs.PiecesLeft.{pieces_left}
use Rattle.hwdb_spec_commands.specs.Fragile.{freed}
use Rattle.hwdb_check.proofs.fragile.push_parts.Given as goal

abbrev pub invariant-loop-part : goal.invariant-loop-part
invariant-loop-part l =
    l.text.items ++ flat_map (λ part. 58 ∷ freed part) (pieces_left l.part-iterator)
    ≡ l.fn.text.items ++ flat_map (λ part. 58 ∷ freed part) (pieces (is 58) l.machine)
