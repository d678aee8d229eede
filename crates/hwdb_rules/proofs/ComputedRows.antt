-- The worked rows, computed.
use Rattle.std.proofs.Common.{refl}
use Rattle.hwdb_spec_commands.specs.Inputs.{after_words, count_bits}
use Rattle.hwdb_spec.specs.Lines.{pieces}
use Rattle.hwdb_spec_commands.specs.Lookups.{asked_in, flag_after, strings_from, told_value}
use Rattle.hwdb_spec_commands.specs.Sysfs.{cut_back, first_at, replaced, value_of}
use Rattle.hwdb_rules.specs.Rows.{BatteryRow, CameraRow, KeyboardRow, LongRow, MouseRow, NetRow, PadRow, SensorRow, TaggedRow, UsbRow, WalkRow, WrittenRow}

pub keyboard_row : KeyboardRow
unfolding after_words count_bits pieces asked_in flag_after strings_from told_value cut_back first_at replaced value_of
keyboard_row = refl

pub usb_row : UsbRow
unfolding after_words count_bits pieces asked_in flag_after strings_from told_value cut_back first_at replaced value_of
usb_row = refl

pub walk_row : WalkRow
unfolding after_words count_bits pieces asked_in flag_after strings_from told_value cut_back first_at replaced value_of
walk_row = refl

pub mouse_row : MouseRow
unfolding after_words count_bits pieces asked_in flag_after strings_from told_value cut_back first_at replaced value_of
mouse_row = refl

pub sensor_row : SensorRow
unfolding after_words count_bits pieces asked_in flag_after strings_from told_value cut_back first_at replaced value_of
sensor_row = refl

pub camera_row : CameraRow
unfolding after_words count_bits pieces asked_in flag_after strings_from told_value cut_back first_at replaced value_of
camera_row = refl

pub net_row : NetRow
unfolding after_words count_bits pieces asked_in flag_after strings_from told_value cut_back first_at replaced value_of
net_row = refl

pub written_row : WrittenRow
unfolding after_words count_bits pieces asked_in flag_after strings_from told_value cut_back first_at replaced value_of
written_row = refl

pub pad_row : PadRow
unfolding after_words count_bits pieces asked_in flag_after strings_from told_value cut_back first_at replaced value_of
pad_row = refl

pub tagged_row : TaggedRow
unfolding after_words count_bits pieces asked_in flag_after strings_from told_value cut_back first_at replaced value_of
tagged_row = refl

pub battery_row : BatteryRow
unfolding after_words count_bits pieces asked_in flag_after strings_from told_value cut_back first_at replaced value_of
battery_row = refl

pub long_row : LongRow
unfolding after_words count_bits pieces asked_in flag_after strings_from told_value cut_back first_at replaced value_of
long_row = (refl, refl)
