use Rattle.std.proofs.Common.{◌≡◌, drop}
use Rattle.std.specs.List.{list_all}
use Rattle.hwdb_spec_commands.specs.Properties.{is_setting_byte}
use Rattle.hwdb_properties.proofs.numbers.is_setting.Given as goal

abbrev pub invariant-loop-byte : goal.invariant-loop-byte
invariant-loop-byte l = list_all is_setting_byte (drop l.byte-index l.text) ≡ list_all is_setting_byte l.text
