-- The worked rows, computed.
use Rattle.std.proofs.Common.{refl}
use Rattle.hwdb_rulecommands.specs.Builtins.{builtins}
use Rattle.hwdb_rulecommands.specs.Rows.{WordRows, LookupRows, BuiltinRows, SettableRows}

pub word_rows_hold : WordRows
word_rows_hold = record {
  none = refl;
  gaps = refl;
  one = refl;
  two = refl;
  newlines = refl;
  within = refl;
  option = refl;
  other_kind = refl;
  backslash = refl;
  backslash_before_quote = refl;
  backslash_within = refl;
  empty = refl;
  empty_among = refl;
  unended = refl;
  unended_gaps = refl;
  unended_empty = refl;
  joined = refl;
}

pub lookup_rows_hold : LookupRows
lookup_rows_hold = record {
  none = refl;
  both = refl;
  permuted = refl;
  only_text = refl;
  prefixed = refl;
  later_subsystem = refl;
  later_prefix = refl;
  empty_subsystem = refl;
  equals_within = refl;
  dash = refl;
  dash_within = refl;
  empty_text = refl;
  short = refl;
  short_joined = refl;
  no_equals = refl;
  shortened = refl;
  filter = refl;
  device = refl;
  ends_options = refl;
  later_option = refl;
}

pub builtin_rows_hold : BuiltinRows
unfolding builtins
builtin_rows_hold = record {
  whole = refl;
  hwdb = refl;
  keyboard = refl;
  kmod = refl;
  blkid = refl;
  btrfs = refl;
  net_driver = refl;
  net_id = refl;
  net_setup_link = refl;
  uaccess = refl;
  path_id = refl;
  factory_reset = refl;
  tpm2_id = refl;
  other = refl;
  longer = refl;
  capital = refl;
  empty = refl;
}

pub settable_rows_hold : SettableRows
settable_rows_hold = record {
  path_id = refl;
  keyboard = refl;
  blkid = refl;
  path = refl;
  bare = refl;
  tab = refl;
  slash_at_end = refl;
  space_first = refl;
  ata_id = refl;
  cdrom_id = refl;
  v4l_id = refl;
  mtd_probe = refl;
  shell = refl;
  longer = refl;
  quoted = refl;
  empty = refl;
}
