use Rattle.std.proofs.Common.{◌≡◌, ◌++◌, map, drop}
use Rattle.hwdb_rulecommands.specs.CommandWords
use Rattle.hwdb_rulecommands.specs.Views.{reading_of, word_of}
use Rattle.hwdb_rulecommands.proofs.splitting.words.Given as goal

abbrev pub invariant-loop-byte : goal.invariant-loop-byte
invariant-loop-byte l =
    map word_of l.all.items ++ CommandWords.words_from (reading_of l.reading) (drop l.byte-index l.command) ≡ CommandWords.words l.command
