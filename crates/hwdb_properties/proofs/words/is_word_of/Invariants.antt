use Rattle.std.proofs.Common.{◌≡◌}
use Rattle.std.specs.List.{list_any}
use Rattle.hwdb_spec_commands.specs.Properties.{is_word_of, same_letters}
use Rattle.hwdb_text.specs.PiecesLeft.{pieces_left}
use Rattle.hwdb_properties.proofs.words.is_word_of.Given as goal

abbrev pub invariant-loop-word : goal.invariant-loop-word
invariant-loop-word l = list_any (same_letters l.text) (pieces_left l.word-iterator) ≡ is_word_of l.own l.text
