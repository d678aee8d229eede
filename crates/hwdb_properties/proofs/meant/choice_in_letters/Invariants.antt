use Rattle.std.proofs.Common.{◌≡◌, find, []}
use Rattle.std.specs.Option.{unwrap_or}
use Rattle.hwdb_spec_commands.specs.Properties.{choice_in_letters, same_letters}
use Rattle.hwdb_text.specs.PiecesLeft.{pieces_left}
use Rattle.hwdb_properties.proofs.meant.choice_in_letters.Given as goal

abbrev pub invariant-loop-word : goal.invariant-loop-word
invariant-loop-word l = unwrap_or (find (same_letters l.text) (pieces_left l.word-iterator)) [] ≡ choice_in_letters l.form l.text
