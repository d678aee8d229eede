-- Each step leaves one word less, and none of those before it is the path.
use Rattle.std.proofs.Common.{◌≡◌, length, map, string_bytes}
use Rattle.hwdb_plan.specs.Files.{is_word}
use Rattle.hwdb_tool.specs.Internal.{AreWords}
use Rattle.hwdb_tool.proofs.check_command.after.Given as goal

abbrev pub invariant-words : goal.invariant-words
invariant-words l = record {
  among : AreWords l.left l.words;
  same : is_word (map string_bytes l.words) l.path ≡ is_word (map string_bytes l.left) l.path;
}

abbrev pub decreases-words : goal.decreases-words
decreases-words l = length l.left
