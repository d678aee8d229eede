use Rattle.std.proofs.Common.{◌≡◌, map, drop, Some}
use Rattle.hwdb_rulecommands.specs.LookupCommands
use Rattle.hwdb_rulecommands.specs.Views.{lookup_of, word_of}
use Rattle.hwdb_rulecommands.proofs.lookups.lookup_command.Given as goal

abbrev pub invariant-loop-word : goal.invariant-loop-word
invariant-loop-word l =
    LookupCommands.with_words (Some (lookup_of l.lookup)) (map word_of (drop l.word-index l.words)) ≡ LookupCommands.lookup_of (map word_of l.words)
