use Rattle.std.proofs.Common.{◌≡◌}
use Rattle.std.specs.List.{list_all}
use Rattle.hwdb_spec_commands.specs.Properties.{is_resolution, is_resolutions}
use Rattle.hwdb_text.specs.PiecesLeft.{pieces_left}
use Rattle.hwdb_properties.proofs.values.is_resolutions.Given as goal

abbrev pub invariant-loop-piece : goal.invariant-loop-piece
invariant-loop-piece l = list_all is_resolution (pieces_left l.piece-iterator) ≡ is_resolutions l.text
