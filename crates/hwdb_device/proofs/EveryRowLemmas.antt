-- The rows of the strings of all devices, computed.
use Rattle.std.proofs.Common.{refl}
use Rattle.std.specs.Char.{encode_utf8}
use Rattle.std.specs.Str.{chars, is_utf8}
use Rattle.hwdb_spec.specs.Assignment.{put, put_all}
use Rattle.hwdb_spec.specs.Explanations.{explained}
use Rattle.hwdb_spec.specs.Lines.{pieces}
use Rattle.hwdb_spec.specs.Tree.{answers, values_under}
use Rattle.hwdb_spec.specs.Visible.{visible_after}
use Rattle.hwdb_spec_commands.specs.AllStrings.{with_texts}
use Rattle.hwdb_spec_commands.specs.DeviceTree.{above, first_given, last_after}
use Rattle.hwdb_spec_commands.specs.Inputs.{after_words, count_bits}
use Rattle.hwdb_spec_commands.specs.Lookups.{asked_in, flag_after, strings_from, told_value}
use Rattle.hwdb_spec_commands.specs.Sysfs.{cut_back, first_at, replaced, value_of}
use Rattle.hwdb_device.specs.EveryRows.{AllRows, OnceRows}

pub once_rows : OnceRows
unfolding with_texts
once_rows = refl

pub all_rows : AllRows
unfolding answers explained values_under with_texts above first_given last_after pieces after_words count_bits asked_in flag_after strings_from told_value cut_back first_at replaced value_of put put_all visible_after is_utf8 chars encode_utf8
all_rows = (refl, refl)
