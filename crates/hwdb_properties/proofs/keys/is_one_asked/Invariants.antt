use Rattle.std.proofs.Common.{◌≡◌, drop, map}
use Rattle.std.specs.List.{list_any}
use Rattle.std.specs.Prelude.{string_bytes}
use Rattle.hwdb_spec_commands.specs.KeysAsked.{asks_for}
use Rattle.hwdb_properties.proofs.keys.is_one_asked.Given as goal

abbrev pub invariant-loop-given : goal.invariant-loop-given
invariant-loop-given l =
    list_any (asks_for l.key) (map string_bytes (drop l.given-index l.words)) ≡ list_any (asks_for l.key) (map string_bytes l.words)
