-- The worked rows, computed.
use Rattle.std.proofs.Common.{refl}
use Rattle.hwdb_spec.specs.Patterns.{bracket_at, items_from, item_at, classes, tokens_from, token_at, some_ending, byte_then, piece_then, matches}
use Rattle.hwdb_rulefiles.specs.RuleText.{first_rows, steps, long_row}
use Rattle.hwdb_rulefiles.specs.RuleLines.{taking_most}
use Rattle.hwdb_rulefiles.specs.RuleOrder.{by_rank}
use Rattle.hwdb_rulefiles.specs.RuleJumps.{resolved}
use Rattle.hwdb_rulefiles.specs.Escapes.{first_pieces}
use Rattle.hwdb_spec_commands.specs.Sysfs.{cut_back, replaced}
use Rattle.hwdb_ruleevents.specs.Pieces.{first_pieces as first_pieces_of}
use Rattle.hwdb_ruleevents.specs.Rows.{JumpRows, PropertyRows, TextRows, WrittenRows, ParentRows}

pub jump_rows_hold : JumpRows
unfolding matches piece_then byte_then some_ending tokens_from token_at bracket_at items_from item_at classes first_rows steps long_row taking_most by_rank resolved first_pieces first_pieces_of
jump_rows_hold = record {
  taken = refl;
  not_taken = refl;
  perhaps = refl;
  two_labels = refl;
  at_its_line = refl;
  next_file = refl;
  no_label = refl;
  refused_line = refl;
  failed_import = refl;
  not_failed = refl;
  unknown_import = refl;
}

pub property_rows_hold : PropertyRows
unfolding matches piece_then byte_then some_ending tokens_from token_at bracket_at items_from item_at classes first_rows steps long_row taking_most by_rank resolved first_pieces first_pieces_of replaced cut_back
property_rows_hold = record {
  set = refl;
  newest = refl;
  emptied = refl;
  nothing_added = refl;
  first_added = refl;
  added = refl;
  perhaps_set = refl;
  not_set = refl;
  replaced = refl;
  other_text = refl;
  other_property = refl;
  unknown_text = refl;
  behind_jump = refl;
  builtin = refl;
  after_builtin = refl;
  program = refl;
  its_name = refl;
  other_program = refl;
  stored = refl;
  other_stored = refl;
  verbatim = refl;
  of_parent = refl;
  of_no_parent = refl;
  tags = refl;
  links = refl;
  run_later = refl;
}

pub text_rows_hold : TextRows
unfolding first_pieces_of replaced cut_back first_rows steps long_row taking_most by_rank resolved first_pieces
text_rows_hold = record {
  literal = refl;
  kernel = refl;
  letter = refl;
  longer = refl;
  devpath = refl;
  number = refl;
  property = refl;
  no_property = refl;
  unknown_property = refl;
  attribute = refl;
  unknown_attribute = refl;
  missing_attribute = refl;
  unread_attribute = refl;
  machine = refl;
  no_machine = refl;
  unread_machine = refl;
  folders = refl;
  doubled = refl;
  no_variable = refl;
  no_end = refl;
  nothing_in_braces = refl;
  no_braces = refl;
  spare_braces = refl;
  result = refl;
  long = refl;
  longest = refl;
  long_command = refl;
  longest_command = refl;
  long_attribute = refl;
  long_other = refl;
}

pub written_rows_hold : WrittenRows
unfolding replaced cut_back
written_rows_hold = record {
  blanks = refl;
  other_bytes = refl;
  tab = refl;
  no_digits = refl;
  some_digits = refl;
  all_digits = refl;
}

pub parent_rows_hold : ParentRows
unfolding matches piece_then byte_then some_ending tokens_from token_at bracket_at items_from item_at classes first_rows steps long_row taking_most by_rank resolved first_pieces first_pieces_of replaced cut_back
parent_rows_hold = record {
  chosen = refl;
  nobody = refl;
  itself = refl;
  stays = refl;
  next_file = refl;
  none_fits = refl;
  earlier_fails = refl;
  earlier_unknown = refl;
  later_unknown = refl;
  in_its_line = refl;
  unknown = refl;
  after_jump = refl;
  of_a_node = refl;
  of_an_interface = refl;
  label_alone = refl;
  jump = refl;
}
