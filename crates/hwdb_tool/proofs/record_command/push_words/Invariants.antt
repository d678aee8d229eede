use Rattle.std.proofs.Common.{◌≡◌, ◌++◌, map, string_bytes, take}
use Rattle.hwdb_tool.proofs.record_command.push_words.Given as goal

abbrev pub invariant-loop-word : goal.invariant-loop-word
invariant-loop-word l = map (λ d. d.now) l.devices.items ≡ map (λ d. d.now) l.fn.devices.items ++ map string_bytes (take l.word-index l.words)
