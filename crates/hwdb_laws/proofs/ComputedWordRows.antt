-- The rows, computed.
use Rattle.hwdb_laws.specs.WordRows.{AskRows, BareDeviceRows, BareUpdateRows, BeforeRows, CheckRows, DeviceRows, DiffRows, DumpRows, ExplainRows, KeysRows, ListRows, NearRows, NumberRows, QueryRows, ReviewRows, RightRows, ScanRows, StatusRows, TestRows, UpdateRows, VerifyRows, WrongRows}
use Rattle.clap.specs.Faults.{defaults_fault, flags_fault, walk_fault}
use Rattle.clap.specs.Walk.{bundle_met, walked}
use Rattle.hex.specs.Hex.{encode_with}
use Rattle.hwdb_spec.specs.Answers.{effective_of, last_of_each, last_value}
use Rattle.hwdb_spec.specs.Assignment.{ascending, assignment_cmp, position_cmp, put, put_all}
use Rattle.hwdb_spec.specs.Explanations.{explained}
use Rattle.hwdb_spec.specs.Folders.{first_of}
use Rattle.hwdb_spec.specs.Lines.{numbered, pieces, trimmed}
use Rattle.hwdb_spec.specs.Patterns.{bracket_at, byte_then, classes, item_at, items_from, matches, piece_then, some_ending, token_at, tokens_from}
use Rattle.hwdb_spec.specs.Records.{behind, first_section, sections_from}
use Rattle.hwdb_spec.specs.Tree.{answers, some_up_to, values_below, values_under}
use Rattle.hwdb_spec.specs.Visible.{visible_after}
use Rattle.hwdb_spec_commands.specs.Json.{escaped_after, items_of, members_of}
use Rattle.hwdb_spec_commands.specs.Near.{first_up_to, last_up_to}
use Rattle.hwdb_spec_commands.specs.Once.{once}
use Rattle.hwdb_spec_commands.specs.Summary.{depth, depth_of, nodes, nodes_of}
use Rattle.hwdb_spec_commands.specs.Wanted.{records_from}
use Rattle.json.specs.Print.{escape_byte, print_from}
use Rattle.std.specs.Char.{encode_utf8}
use Rattle.std.specs.Fmt.{digits}
use Rattle.std.specs.Str.{chars, is_utf8}
use Rattle.std.proofs.Common.{refl}

pub update_rows : UpdateRows
unfolding pieces numbered trimmed first_section sections_from behind records_from tokens_from token_at item_at items_from bracket_at classes nodes nodes_of depth depth_of explained first_of once last_up_to first_up_to some_up_to values_under values_below ascending put put_all assignment_cmp position_cmp matches some_ending byte_then piece_then visible_after is_utf8 chars encode_utf8 digits encode_with items_of members_of escaped_after escape_byte print_from answers effective_of last_of_each last_value bundle_met walked flags_fault walk_fault defaults_fault
update_rows = refl

pub bare_update_rows : BareUpdateRows
unfolding pieces numbered trimmed first_section sections_from behind records_from tokens_from token_at item_at items_from bracket_at classes nodes nodes_of depth depth_of explained first_of once last_up_to first_up_to some_up_to values_under values_below ascending put put_all assignment_cmp position_cmp matches some_ending byte_then piece_then visible_after is_utf8 chars encode_utf8 digits encode_with items_of members_of escaped_after escape_byte print_from answers effective_of last_of_each last_value bundle_met walked flags_fault walk_fault defaults_fault
bare_update_rows = refl

pub query_rows : QueryRows
unfolding pieces numbered trimmed first_section sections_from behind records_from tokens_from token_at item_at items_from bracket_at classes nodes nodes_of depth depth_of explained first_of once last_up_to first_up_to some_up_to values_under values_below ascending put put_all assignment_cmp position_cmp matches some_ending byte_then piece_then visible_after is_utf8 chars encode_utf8 digits encode_with items_of members_of escaped_after escape_byte print_from answers effective_of last_of_each last_value bundle_met walked flags_fault walk_fault defaults_fault
query_rows = refl

pub explain_rows : ExplainRows
unfolding pieces numbered trimmed first_section sections_from behind records_from tokens_from token_at item_at items_from bracket_at classes nodes nodes_of depth depth_of explained first_of once last_up_to first_up_to some_up_to values_under values_below ascending put put_all assignment_cmp position_cmp matches some_ending byte_then piece_then visible_after is_utf8 chars encode_utf8 digits encode_with items_of members_of escaped_after escape_byte print_from answers effective_of last_of_each last_value bundle_met walked flags_fault walk_fault defaults_fault
explain_rows = refl

pub ask_rows : AskRows
unfolding pieces numbered trimmed first_section sections_from behind records_from tokens_from token_at item_at items_from bracket_at classes nodes nodes_of depth depth_of explained first_of once last_up_to first_up_to some_up_to values_under values_below ascending put put_all assignment_cmp position_cmp matches some_ending byte_then piece_then visible_after is_utf8 chars encode_utf8 digits encode_with items_of members_of escaped_after escape_byte print_from answers effective_of last_of_each last_value bundle_met walked flags_fault walk_fault defaults_fault
ask_rows = refl

pub list_rows : ListRows
unfolding pieces numbered trimmed first_section sections_from behind records_from tokens_from token_at item_at items_from bracket_at classes nodes nodes_of depth depth_of explained first_of once last_up_to first_up_to some_up_to values_under values_below ascending put put_all assignment_cmp position_cmp matches some_ending byte_then piece_then visible_after is_utf8 chars encode_utf8 digits encode_with items_of members_of escaped_after escape_byte print_from answers effective_of last_of_each last_value bundle_met walked flags_fault walk_fault defaults_fault
list_rows = refl

pub near_rows : NearRows
unfolding pieces numbered trimmed first_section sections_from behind records_from tokens_from token_at item_at items_from bracket_at classes nodes nodes_of depth depth_of explained first_of once last_up_to first_up_to some_up_to values_under values_below ascending put put_all assignment_cmp position_cmp matches some_ending byte_then piece_then visible_after is_utf8 chars encode_utf8 digits encode_with items_of members_of escaped_after escape_byte print_from answers effective_of last_of_each last_value bundle_met walked flags_fault walk_fault defaults_fault
near_rows = refl

pub device_rows : DeviceRows
unfolding pieces numbered trimmed first_section sections_from behind records_from tokens_from token_at item_at items_from bracket_at classes nodes nodes_of depth depth_of explained first_of once last_up_to first_up_to some_up_to values_under values_below ascending put put_all assignment_cmp position_cmp matches some_ending byte_then piece_then visible_after is_utf8 chars encode_utf8 digits encode_with items_of members_of escaped_after escape_byte print_from answers effective_of last_of_each last_value bundle_met walked flags_fault walk_fault defaults_fault
device_rows = refl

pub bare_device_rows : BareDeviceRows
unfolding pieces numbered trimmed first_section sections_from behind records_from tokens_from token_at item_at items_from bracket_at classes nodes nodes_of depth depth_of explained first_of once last_up_to first_up_to some_up_to values_under values_below ascending put put_all assignment_cmp position_cmp matches some_ending byte_then piece_then visible_after is_utf8 chars encode_utf8 digits encode_with items_of members_of escaped_after escape_byte print_from answers effective_of last_of_each last_value bundle_met walked flags_fault walk_fault defaults_fault
bare_device_rows = refl

pub check_rows : CheckRows
unfolding pieces numbered trimmed first_section sections_from behind records_from tokens_from token_at item_at items_from bracket_at classes nodes nodes_of depth depth_of explained first_of once last_up_to first_up_to some_up_to values_under values_below ascending put put_all assignment_cmp position_cmp matches some_ending byte_then piece_then visible_after is_utf8 chars encode_utf8 digits encode_with items_of members_of escaped_after escape_byte print_from answers effective_of last_of_each last_value bundle_met walked flags_fault walk_fault defaults_fault
check_rows = refl

pub test_rows : TestRows
unfolding pieces numbered trimmed first_section sections_from behind records_from tokens_from token_at item_at items_from bracket_at classes nodes nodes_of depth depth_of explained first_of once last_up_to first_up_to some_up_to values_under values_below ascending put put_all assignment_cmp position_cmp matches some_ending byte_then piece_then visible_after is_utf8 chars encode_utf8 digits encode_with items_of members_of escaped_after escape_byte print_from answers effective_of last_of_each last_value bundle_met walked flags_fault walk_fault defaults_fault
test_rows = refl

pub diff_rows : DiffRows
unfolding pieces numbered trimmed first_section sections_from behind records_from tokens_from token_at item_at items_from bracket_at classes nodes nodes_of depth depth_of explained first_of once last_up_to first_up_to some_up_to values_under values_below ascending put put_all assignment_cmp position_cmp matches some_ending byte_then piece_then visible_after is_utf8 chars encode_utf8 digits encode_with items_of members_of escaped_after escape_byte print_from answers effective_of last_of_each last_value bundle_met walked flags_fault walk_fault defaults_fault
diff_rows = refl

pub review_rows : ReviewRows
unfolding pieces numbered trimmed first_section sections_from behind records_from tokens_from token_at item_at items_from bracket_at classes nodes nodes_of depth depth_of explained first_of once last_up_to first_up_to some_up_to values_under values_below ascending put put_all assignment_cmp position_cmp matches some_ending byte_then piece_then visible_after is_utf8 chars encode_utf8 digits encode_with items_of members_of escaped_after escape_byte print_from answers effective_of last_of_each last_value bundle_met walked flags_fault walk_fault defaults_fault
review_rows = refl

pub verify_rows : VerifyRows
unfolding pieces numbered trimmed first_section sections_from behind records_from tokens_from token_at item_at items_from bracket_at classes nodes nodes_of depth depth_of explained first_of once last_up_to first_up_to some_up_to values_under values_below ascending put put_all assignment_cmp position_cmp matches some_ending byte_then piece_then visible_after is_utf8 chars encode_utf8 digits encode_with items_of members_of escaped_after escape_byte print_from answers effective_of last_of_each last_value bundle_met walked flags_fault walk_fault defaults_fault
verify_rows = refl

pub dump_rows : DumpRows
unfolding pieces numbered trimmed first_section sections_from behind records_from tokens_from token_at item_at items_from bracket_at classes nodes nodes_of depth depth_of explained first_of once last_up_to first_up_to some_up_to values_under values_below ascending put put_all assignment_cmp position_cmp matches some_ending byte_then piece_then visible_after is_utf8 chars encode_utf8 digits encode_with items_of members_of escaped_after escape_byte print_from answers effective_of last_of_each last_value bundle_met walked flags_fault walk_fault defaults_fault
dump_rows = refl

pub status_rows : StatusRows
unfolding pieces numbered trimmed first_section sections_from behind records_from tokens_from token_at item_at items_from bracket_at classes nodes nodes_of depth depth_of explained first_of once last_up_to first_up_to some_up_to values_under values_below ascending put put_all assignment_cmp position_cmp matches some_ending byte_then piece_then visible_after is_utf8 chars encode_utf8 digits encode_with items_of members_of escaped_after escape_byte print_from answers effective_of last_of_each last_value bundle_met walked flags_fault walk_fault defaults_fault
status_rows = refl

pub keys_rows : KeysRows
unfolding pieces numbered trimmed first_section sections_from behind records_from tokens_from token_at item_at items_from bracket_at classes nodes nodes_of depth depth_of explained first_of once last_up_to first_up_to some_up_to values_under values_below ascending put put_all assignment_cmp position_cmp matches some_ending byte_then piece_then visible_after is_utf8 chars encode_utf8 digits encode_with items_of members_of escaped_after escape_byte print_from answers effective_of last_of_each last_value bundle_met walked flags_fault walk_fault defaults_fault
keys_rows = refl

pub scan_rows : ScanRows
unfolding pieces numbered trimmed first_section sections_from behind records_from tokens_from token_at item_at items_from bracket_at classes nodes nodes_of depth depth_of explained first_of once last_up_to first_up_to some_up_to values_under values_below ascending put put_all assignment_cmp position_cmp matches some_ending byte_then piece_then visible_after is_utf8 chars encode_utf8 digits encode_with items_of members_of escaped_after escape_byte print_from answers effective_of last_of_each last_value bundle_met walked flags_fault walk_fault defaults_fault
scan_rows = refl

pub number_rows : NumberRows
number_rows = refl

pub before_rows : BeforeRows
unfolding pieces numbered trimmed first_section sections_from behind records_from tokens_from token_at item_at items_from bracket_at classes nodes nodes_of depth depth_of explained first_of once last_up_to first_up_to some_up_to values_under values_below ascending put put_all assignment_cmp position_cmp matches some_ending byte_then piece_then visible_after is_utf8 chars encode_utf8 digits encode_with items_of members_of escaped_after escape_byte print_from answers effective_of last_of_each last_value bundle_met walked flags_fault walk_fault defaults_fault
before_rows = refl

pub wrong_rows : WrongRows
unfolding pieces numbered trimmed first_section sections_from behind records_from tokens_from token_at item_at items_from bracket_at classes nodes nodes_of depth depth_of explained first_of once last_up_to first_up_to some_up_to values_under values_below ascending put put_all assignment_cmp position_cmp matches some_ending byte_then piece_then visible_after is_utf8 chars encode_utf8 digits encode_with items_of members_of escaped_after escape_byte print_from answers effective_of last_of_each last_value bundle_met walked flags_fault walk_fault defaults_fault
wrong_rows = refl

pub right_rows : RightRows
unfolding pieces numbered trimmed first_section sections_from behind records_from tokens_from token_at item_at items_from bracket_at classes nodes nodes_of depth depth_of explained first_of once last_up_to first_up_to some_up_to values_under values_below ascending put put_all assignment_cmp position_cmp matches some_ending byte_then piece_then visible_after is_utf8 chars encode_utf8 digits encode_with items_of members_of escaped_after escape_byte print_from answers effective_of last_of_each last_value bundle_met walked flags_fault walk_fault defaults_fault
right_rows = refl
