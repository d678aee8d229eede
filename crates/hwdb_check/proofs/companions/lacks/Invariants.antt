use Rattle.std.proofs.Common.{◌≡◌, not}
use Rattle.std.specs.List.{list_any}
use Rattle.hwdb_text.specs.PiecesLeft.{pieces_left}
use Rattle.hwdb_check.specs.Internal.{holds, lacks_of}
use Rattle.hwdb_check.proofs.companions.lacks.Given as goal

abbrev pub invariant-loop-key : goal.invariant-loop-key
invariant-loop-key l = list_any (λ key. not (holds l.places l.pattern key)) (pieces_left l.key-iterator) ≡ lacks_of l.places l.pattern l.keys
