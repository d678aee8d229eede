use Rattle.std.proofs.Common.{◌≡◌, ◌∷◌}
use Rattle.hwdb_spec.specs.Lines.{is, pieces}
use Rattle.hwdb_spec_commands.specs.DeviceTree.{nearest_of}
use Rattle.hwdb_text.specs.PiecesLeft.{pieces_left}
use Rattle.hwdb_device.proofs.by_word.nearer_part.Given as goal

abbrev pub invariant-loop-word : goal.invariant-loop-word
invariant-loop-word l = nearest_of l.given l.nearest.items (pieces_left l.word-iterator) ≡ nearest_of l.given l.fn.before.items (l.title ∷ pieces (is 32) l.title)
