-- The worked rows, computed.
use Rattle.std.proofs.Common.{refl}
use Rattle.std.specs.Fmt.{digits}
use Rattle.hwdb_rulefiles.specs.RuleText.{first_rows, steps, long_row}
use Rattle.hwdb_rulefiles.specs.RuleLines.{taking_most}
use Rattle.hwdb_rulefiles.specs.RuleOrder.{by_rank}
use Rattle.hwdb_rulefiles.specs.RuleJumps.{resolved}
use Rattle.hwdb_rulefiles.specs.Escapes.{first_pieces}
use Rattle.hwdb_rulefiles.specs.RuleSpots.{spot_in}
use Rattle.hwdb_rulefiles.specs.RuleRows.{LineRows, RefusedRows, RemarkRows, OrderRows, ValueRows, JumpRows, SystemRows, ChoiceRows, SpotRows}

pub line_rows_hold : LineRows
unfolding first_rows steps long_row taking_most by_rank resolved first_pieces
line_rows_hold = record {
  none = (refl, refl);
  comment = (refl, refl);
  two = (refl, refl);
  open_row = (refl, refl);
  carriage = (refl, refl);
  goes_on = (refl, refl);
  comment_within = (refl, refl);
  empty_within = (refl, refl);
  open_end = (refl, refl);
}

pub refused_rows_hold : RefusedRows
unfolding first_rows steps long_row taking_most by_rank resolved first_pieces
refused_rows_hold = record {
  builtin = (refl, refl);
  prefix = (refl, refl);
  operator = (refl, refl);
  set_operator = (refl, refl);
  key = (refl, refl);
  lower = (refl, refl);
  attribute = (refl, refl);
  no_attribute = (refl, refl);
  source = (refl, refl);
  mode = (refl, refl);
  no_end = (refl, refl);
  no_quote = (refl, refl);
  no_brace = (refl, refl);
  no_operator = (refl, refl);
  word = (refl, refl);
  fixed = (refl, refl);
  name = (refl, refl);
  no_name = (refl, refl);
  priority = (refl, refl);
  idle = (refl, refl);
  escape = (refl, refl);
}

pub remark_rows_hold : RemarkRows
unfolding first_rows steps long_row taking_most by_rank resolved first_pieces
remark_rows_hold = record {
  option = (refl, refl);
  assumed = (refl, refl);
  joined = (refl, refl);
  blanks = (refl, refl);
  commas = (refl, refl);
}

pub order_rows_hold : OrderRows
unfolding first_rows steps long_row taking_most by_rank resolved first_pieces
order_rows_hold = record {
  late = (refl, refl);
  parents = (refl, refl);
  stable = refl;
  program = (refl, refl);
  shortened = (refl, refl);
  other = (refl, refl);
}

pub value_rows_hold : ValueRows
unfolding first_rows steps long_row taking_most by_rank resolved first_pieces
value_rows_hold = record {
  quote = refl;
  backslash = refl;
  kept = refl;
  escaped = refl;
  empty = refl;
}

pub jump_rows_hold : JumpRows
unfolding first_rows steps long_row taking_most by_rank resolved first_pieces
jump_rows_hold = record {
  jump = (refl, refl);
  back = (refl, refl);
  nowhere = (refl, refl);
  own = (refl, refl);
  second = (refl, refl);
  ordered = (refl, refl);
}

pub system_rows_hold : SystemRows
unfolding first_rows steps long_row taking_most by_rank resolved first_pieces
system_rows_hold = record {
  evdev = (refl, refl);
  usb = (refl, refl);
  event = (refl, refl);
}

pub choice_rows_hold : ChoiceRows
unfolding first_rows steps long_row taking_most by_rank resolved first_pieces
choice_rows_hold = record {
  first = refl;
  others = refl;
}

pub spot_rows_hold : SpotRows
unfolding first_rows steps long_row taking_most by_rank resolved first_pieces spot_in digits
spot_rows_hold = record { first = refl; indented = refl; second = refl; goes_on = refl; comment_within = refl; told = refl }
