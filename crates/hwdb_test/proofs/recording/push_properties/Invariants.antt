use Rattle.std.proofs.Common.{◌≡◌, ◌++◌, drop, map, take}
use Rattle.std.specs.Prelude.{flat_map}
use Rattle.hwdb_spec_commands.specs.Recorded.{ended, first_unsaid, property_lines}
use Rattle.hwdb_test.specs.Views.{given_at}
use Rattle.hwdb_test.proofs.recording.push_properties.Given as goal

abbrev pub invariant-loop-given : goal.invariant-loop-given
invariant-loop-given l = record {
  text : l.text.items ≡ l.fn.text.items ++ flat_map ended (flat_map property_lines (map given_at (take l.given-index l.found)));
  said : first_unsaid l.device (map given_at l.found) ≡ first_unsaid l.device (map given_at (drop l.given-index l.found));
}
