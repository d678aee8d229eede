-- The worked rows, computed.
use Rattle.std.proofs.Common.{refl}
use Rattle.std.specs.Fmt.{digits}
use Rattle.hwdb_spec.specs.Visible.{visible_after}
use Rattle.hwdb_spec_commands.specs.Json.{escaped_after, items_of, members_of}
use Rattle.json.specs.Print.{escape_byte, print_from}
use Rattle.std.specs.Char.{encode_utf8}
use Rattle.std.specs.Str.{chars, is_utf8}
use Rattle.hwdb_spec.specs.Assignment.{put_all, put}
use Rattle.hwdb_spec.specs.Explanations.{explained}
use Rattle.hwdb_spec.specs.Lines.{pieces}
use Rattle.hwdb_spec.specs.Tree.{answers, values_under}
use Rattle.hwdb_spec.specs.Patterns.{bracket_at, items_from, item_at, classes, tokens_from, token_at, some_ending, byte_then, piece_then, matches}
use Rattle.hwdb_rulefiles.specs.RuleText.{first_rows, steps, long_row}
use Rattle.hwdb_rulefiles.specs.RuleLines.{taking_most}
use Rattle.hwdb_rulefiles.specs.RuleOrder.{by_rank}
use Rattle.hwdb_rulefiles.specs.RuleJumps.{resolved}
use Rattle.hwdb_rulefiles.specs.Escapes.{first_pieces}
use Rattle.hwdb_spec_commands.specs.Lookups.{asked_in, strings_from}
use Rattle.hwdb_spec_commands.specs.Sysfs.{cut_back, first_at, replaced, value_of}
use Rattle.hwdb_ruleevents.specs.Pieces.{first_pieces as first_pieces_of}
use Rattle.hwdb_rulecommands.specs.Builtins.{builtins}
use Rattle.hwdb_spec_rules.specs.Rows.{AskedRows, NameRows, SightRows, WhyRows, WordRows}

pub name_rows_hold : NameRows
unfolding first_rows steps long_row taking_most by_rank resolved first_pieces first_pieces_of
name_rows_hold = record {
  condition = refl;
  own_condition = refl;
  other_device = refl;
  long_name = refl;
  old_name = refl;
  letter = refl;
  property = refl;
  machine = refl;
  command = refl;
  compared = refl;
  run_later = refl;
}

pub sight_rows_hold : SightRows
unfolding pieces cut_back value_of
sight_rows_hold = record {
  text = refl;
  none = refl;
  with_byte_0 = refl;
  link = refl;
  above = refl;
  told = refl;
  node = refl;
  empty = refl;
  no_value = refl;
  action = refl;
  path = refl;
  subsystem = refl;
  number = refl;
  other = refl;
}

pub asked_rows_hold : AskedRows
unfolding answers explained values_under digits put put_all pieces matches piece_then byte_then some_ending tokens_from token_at bracket_at items_from item_at classes first_rows steps long_row taking_most by_rank resolved first_pieces first_pieces_of asked_in strings_from cut_back first_at replaced value_of builtins visible_after is_utf8 chars encode_utf8
asked_rows_hold = record {
  certain = refl;
  of_parent = refl;
  of_machine = refl;
  walk = refl;
  walk_on = refl;
  set_alias = refl;
  other_subsystem = refl;
  unknown_alias = refl;
  perhaps = refl;
  perhaps_passed = refl;
  perhaps_run = refl;
  untold = refl;
  of_all = refl;
  option = refl;
  no_subsystem = refl;
  answer = refl;
  no_answer = refl;
  usb_id = refl;
  usb_id_later = refl;
  usb_id_other = refl;
  usb_id_serial = refl;
  net_id = refl;
  net_id_perhaps = refl;
  net_id_gives = refl;
  no_address = refl;
  own_program = refl;
  other_program = refl;
  change = refl;
}

pub why_rows_hold : WhyRows
unfolding digits put put_all pieces matches piece_then byte_then some_ending tokens_from token_at bracket_at items_from item_at classes first_rows steps long_row taking_most by_rank resolved first_pieces first_pieces_of asked_in strings_from cut_back first_at replaced value_of builtins visible_after is_utf8 chars encode_utf8 items_of members_of escaped_after escape_byte print_from
why_rows_hold = record {
  asks = refl;
  no_lookup = refl;
  own = refl;
  property = refl;
  parents = refl;
  passed = refl;
  two_jumps = refl;
  same_jump = refl;
  many_jumps = refl;
  run = refl;
  may = refl;
  may_be_passed = refl;
  change = refl;
  no_action = refl;
  json = refl;
}

pub word_rows_hold : WordRows
word_rows_hold = record {
  none = refl;
  why = refl;
  system = refl;
  built_in = refl;
  why_built_in = refl;
  other_word = refl;
  own_first = refl;
  theirs = refl;
  other = refl;
  no_device = refl;
  no_export = refl;
  all = refl;
  fits = refl;
  why_fits = refl;
  why_needs = refl;
  why_all = refl;
  why_export = refl;
  why_of_built_in = refl;
  why_strings = refl;
  why_pattern = refl;
  ending = refl;
}
