-- The worked rows of records, computed.
use Rattle.std.proofs.Common.{refl}
use Rattle.hwdb_spec.specs.Lines.{pieces}
use Rattle.hwdb_spec_commands.specs.DeviceRecords.{from_first, up_to_colons}
use Rattle.hwdb_spec_commands.specs.Inputs.{after_words, count_bits}
use Rattle.hwdb_spec_commands.specs.Lookups.{asked_in, flag_after, strings_from, told_value}
use Rattle.hwdb_spec_commands.specs.Sysfs.{cut_back, first_at, replaced, value_of}
use Rattle.hwdb_device.specs.RecordRows.{KeysRow, MachineRows, MouseRow, NumberRows, OtherRows, PatternRow}

pub pattern_row : PatternRow
pattern_row = refl

pub number_rows : NumberRows
unfolding from_first up_to_colons
number_rows = refl

pub machine_rows : MachineRows
unfolding from_first up_to_colons
machine_rows = (refl, refl, refl)

pub keys_row : KeysRow
unfolding after_words count_bits pieces asked_in flag_after strings_from told_value cut_back first_at replaced value_of from_first up_to_colons
keys_row = refl

pub mouse_row : MouseRow
unfolding after_words count_bits pieces asked_in flag_after strings_from told_value cut_back first_at replaced value_of from_first up_to_colons
mouse_row = refl

pub other_rows : OtherRows
unfolding after_words count_bits pieces asked_in flag_after strings_from told_value cut_back first_at replaced value_of from_first up_to_colons
other_rows = (refl, refl, refl, refl)
