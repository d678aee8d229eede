use Rattle.std.proofs.Common.{◌≡◌, ◌++◌, [], drop, map}
use Rattle.std.specs.Prelude.{flat_map, string_bytes}
use Rattle.hwdb_spec_commands.specs.KeysAsked.{word_told}
use Rattle.hwdb_properties.proofs.unfound.keys_told.Given as goal

abbrev pub invariant-loop-given : goal.invariant-loop-given
invariant-loop-given l =
    l.text.items ++ flat_map word_told (map string_bytes (drop l.given-index l.words)) ≡ flat_map word_told (map string_bytes l.words)
