use Rattle.std.proofs.Common.{◌≡◌, map}
use Rattle.std.specs.List.{list_any}
use Rattle.hwdb_spec.specs.Folders.{same}
use Rattle.hwdb_text.specs.PiecesLeft.{pieces_left}
use Rattle.hwdb_spec_commands.specs.AllowedKinds.{names_in, stripped}
use Rattle.hwdb_check.proofs.allowed.is_in.Given as goal

abbrev pub invariant-loop-piece : goal.invariant-loop-piece
invariant-loop-piece l = list_any (same l.name) (map stripped (pieces_left l.piece-iterator)) ≡ list_any (same l.name) (names_in l.text)
