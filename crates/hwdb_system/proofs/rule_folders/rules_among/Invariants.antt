use Rattle.std.proofs.Common.{◌≡◌, None, map, string_bytes, take}
use Rattle.std.specs.Prelude.{filter_map}
use Rattle.hwdb_spec_commands.specs.Told.{first_misnamed}
use Rattle.hwdb_system.proofs.OwnRulesLemmas.{rules_held}
use Rattle.hwdb_system.proofs.rule_folders.rules_among.Given as goal

abbrev pub invariant-loop-name : goal.invariant-loop-name
invariant-loop-name l = record {
  told : map string_bytes l.found.items ≡ filter_map rules_held (take l.name-index l.names);
  utf8 : first_misnamed (map string_bytes l.found.items) ≡ None;
}
