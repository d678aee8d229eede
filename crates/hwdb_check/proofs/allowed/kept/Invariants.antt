use Rattle.std.proofs.Common.{◌≡◌, ◌++◌}
use Rattle.std.specs.Prelude.{flat_map}
use Rattle.hwdb_text.specs.PiecesLeft.{pieces_left}
use Rattle.hwdb_check.specs.Internal.{texts}
use Rattle.hwdb_check.specs.Kept.{kept, kept_of}
use Rattle.hwdb_check.specs.Leaving.{all_names}
use Rattle.hwdb_check.proofs.allowed.kept.Given as goal

abbrev pub invariant-loop-kind : goal.invariant-loop-kind
invariant-loop-kind l =
    all_names l.kinds.items ++ flat_map (λ name. kept_of (texts l.texts) name name) (pieces_left l.kind-iterator) ≡ kept (texts l.texts)
