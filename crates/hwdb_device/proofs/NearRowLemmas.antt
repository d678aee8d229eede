-- The rows of what is near, computed.
use Rattle.std.proofs.Common.{refl}
use Rattle.strsim.specs.Edits.{cost_at, next_row, rows}
use Rattle.hwdb_spec.specs.Assignment.{put, put_all}
use Rattle.hwdb_spec.specs.Lines.{pieces}
use Rattle.hwdb_spec_commands.specs.DeviceTree.{above, alike, first_given, last_after, nearest_of}
use Rattle.hwdb_spec_commands.specs.Inputs.{after_words, count_bits}
use Rattle.hwdb_spec_commands.specs.Lookups.{asked_in, flag_after, strings_from, told_value}
use Rattle.hwdb_spec_commands.specs.Sysfs.{cut_back, first_at, replaced, value_of}
use Rattle.hwdb_device.specs.NearRows.{NearGivenRows}

pub near_given_rows : NearGivenRows
unfolding above alike cost_at next_row rows first_given last_after nearest_of pieces after_words count_bits asked_in flag_after strings_from told_value cut_back first_at replaced value_of put put_all
near_given_rows = refl
