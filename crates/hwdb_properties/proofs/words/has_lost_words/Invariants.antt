use Rattle.std.proofs.Common.{◌≡◌}
use Rattle.std.specs.List.{list_all}
use Rattle.hwdb_spec_commands.specs.Properties.{has_lost_words, is_known_word}
use Rattle.hwdb_text.specs.PiecesLeft.{pieces_left}
use Rattle.hwdb_properties.proofs.words.has_lost_words.Given as goal

abbrev pub invariant-loop-word : goal.invariant-loop-word
invariant-loop-word l = list_all (is_known_word l.own) (pieces_left l.word-iterator) ≡ has_lost_words l.own l.name
