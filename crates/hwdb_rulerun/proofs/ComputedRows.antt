-- The worked rows, computed.
use Rattle.std.proofs.Common.{refl}
use Rattle.hwdb_spec.specs.Patterns.{bracket_at, items_from, item_at, classes, tokens_from, token_at, some_ending, byte_then, piece_then, matches}
use Rattle.hwdb_rulefiles.specs.RuleText.{first_rows, steps, long_row}
use Rattle.hwdb_rulefiles.specs.RuleLines.{taking_most}
use Rattle.hwdb_rulefiles.specs.RuleOrder.{by_rank}
use Rattle.hwdb_rulefiles.specs.RuleJumps.{resolved}
use Rattle.hwdb_rulefiles.specs.Escapes.{first_pieces}
use Rattle.hwdb_rulerun.specs.Rows.{MatchRows, ConditionRows, LookupRows}

pub match_rows_hold : MatchRows
unfolding matches piece_then byte_then some_ending tokens_from token_at bracket_at items_from item_at classes
match_rows_hold = record {
  plain = refl;
  longer = refl;
  capitals = refl;
  star = refl;
  slash = refl;
  one = refl;
  bracket = refl;
  inverted = refl;
  second = refl;
  neither = refl;
  wild_second = refl;
  empty = refl;
  empty_value = refl;
  any = refl;
  some = refl;
  bar_at_end = refl;
  bar_at_start = refl;
  two_bars = refl;
  no_empty = refl;
  backslash = refl;
  folded = refl;
  folded_star = refl;
  escape = refl;
  class = refl;
  folded_bracket = refl;
}

pub condition_rows_hold : ConditionRows
unfolding matches piece_then byte_then some_ending tokens_from token_at bracket_at items_from item_at classes first_rows steps long_row taking_most by_rank resolved first_pieces
condition_rows_hold = record {
  subsystem = refl;
  other_subsystem = refl;
  all_subsystems = refl;
  two = refl;
  no_driver = refl;
  blanks = refl;
  blanks_count = refl;
  no_attribute = refl;
  unknown_attribute = refl;
  unread_attribute = refl;
  other_device = refl;
  property = refl;
  no_property = refl;
  unknown_property = refl;
  one_parent = refl;
  two_devices = refl;
  itself = refl;
  maybe_parent = refl;
  tag = refl;
  no_decides = refl;
  unknown_stays = refl;
  no_condition = refl;
}

pub lookup_rows_hold : LookupRows
unfolding matches piece_then byte_then some_ending tokens_from token_at bracket_at items_from item_at classes first_rows steps long_row taking_most by_rank resolved first_pieces
lookup_rows_hold = record {
  certain = refl;
  refuted = refl;
  perhaps = refl;
  second = refl;
  program = refl;
  as_program = refl;
  shortened = refl;
  address = refl;
  short_address = refl;
  driver = refl;
  other = refl;
  refused_line = refl;
  own_cause = refl;
  parents_cause = refl;
  no_cause = refl;
  no_parents = refl;
}
