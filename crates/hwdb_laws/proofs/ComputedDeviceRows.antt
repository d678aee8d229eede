-- The rows, computed.
use Rattle.hwdb_laws.specs.DeviceRows.{FileRows, FittingRows, IdRows, ListRows, MeantRows, NameRows, NothingRows, PlaceRows, PlacesRows, TextRows}
use Rattle.hex.specs.Hex.{encode_with}
use Rattle.hwdb_spec.specs.Answers.{effective_of, is_after, last_assignments, last_matching, last_of_each, last_value}
use Rattle.hwdb_spec.specs.Assignment.{ascending, assignment_cmp, position_cmp, put, put_all}
use Rattle.hwdb_spec.specs.Explanations.{explained}
use Rattle.hwdb_spec.specs.Folders.{first_of}
use Rattle.hwdb_spec.specs.Lines.{numbered, pieces, trimmed}
use Rattle.hwdb_spec.specs.Patterns.{bracket_at, byte_then, classes, item_at, items_from, matches, piece_then, some_ending, token_at, tokens_from}
use Rattle.hwdb_spec.specs.Records.{behind, first_section, sections_from}
use Rattle.hwdb_spec.specs.Tree.{answers, some_up_to, values_below, values_under}
use Rattle.hwdb_spec.specs.Visible.{visible_after}
use Rattle.hwdb_spec_commands.specs.DeviceRecords.{from_first, up_to_colons}
use Rattle.strsim.specs.Edits.{cost_at, next_row, rows}
use Rattle.hwdb_spec_commands.specs.DeviceTree.{above, alike, first_given, last_after, nearest_of}
use Rattle.hwdb_spec_commands.specs.Json.{escaped_after, items_of, members_of}
use Rattle.hwdb_spec_commands.specs.Lookups.{asked_in, flag_after, strings_from, told_value}
use Rattle.hwdb_spec_commands.specs.Near.{first_up_to, last_up_to}
use Rattle.hwdb_spec_commands.specs.NearPrefixes.{closest_after}
use Rattle.hwdb_spec_commands.specs.Once.{once}
use Rattle.hwdb_spec_commands.specs.Summary.{depth, depth_of, nodes, nodes_of}
use Rattle.hwdb_spec_commands.specs.Sysfs.{cut_back, first_at, replaced, value_of}
use Rattle.hwdb_spec_commands.specs.Wanted.{records_from}
use Rattle.json.specs.Print.{escape_byte, print_from}
use Rattle.std.specs.Char.{encode_utf8}
use Rattle.std.specs.Fmt.{digits}
use Rattle.std.specs.Str.{chars, is_utf8}
use Rattle.hwdb_laws.proofs.MapLemmas.{entries_built}
use Rattle.hwdb_laws.specs.DeviceRows.{card, some_file}
use Rattle.hwdb_spec_commands.specs.DeviceTexts.{found_form, told_of_files}
use Rattle.hwdb_spec_commands.specs.Lookups.{lookups}
use Rattle.hwdb_spec_commands.specs.NearAsked.{gathered, pattern_of}
use Rattle.hwdb_spec_commands.specs.declared.devices.DeviceForm.TheVariants as form
use Rattle.hwdb_spec.specs.Folders.{all_assignments}
use Rattle.hwdb_spec.specs.Tree.{entry_of}
use Rattle.std.specs.Prelude.{[], map, reverse}
use Rattle.std.proofs.Common.{◌∙◌, ap, refl}

pub meant_rows : MeantRows
unfolding pieces numbered trimmed first_section sections_from behind records_from tokens_from token_at item_at items_from bracket_at classes nodes nodes_of depth depth_of explained first_of once last_up_to first_up_to some_up_to values_under values_below ascending put put_all assignment_cmp position_cmp matches some_ending byte_then piece_then visible_after is_utf8 chars encode_utf8 digits encode_with items_of members_of escaped_after escape_byte print_from answers effective_of last_of_each last_value strings_from asked_in told_value flag_after cut_back replaced value_of first_at last_after above first_given alike cost_at next_row rows nearest_of from_first up_to_colons closest_after last_matching last_assignments is_after
meant_rows = refl

pub fitting_rows : FittingRows
unfolding pieces numbered trimmed first_section sections_from behind records_from tokens_from token_at item_at items_from bracket_at classes nodes nodes_of depth depth_of explained first_of once last_up_to first_up_to some_up_to values_under values_below ascending put put_all assignment_cmp position_cmp matches some_ending byte_then piece_then visible_after is_utf8 chars encode_utf8 digits encode_with items_of members_of escaped_after escape_byte print_from answers effective_of last_of_each last_value strings_from asked_in told_value flag_after cut_back replaced value_of first_at last_after above first_given alike cost_at next_row rows nearest_of from_first up_to_colons closest_after last_matching last_assignments is_after
fitting_rows = refl

pub places_rows : PlacesRows
unfolding pieces numbered trimmed first_section sections_from behind records_from tokens_from token_at item_at items_from bracket_at classes nodes nodes_of depth depth_of explained first_of once last_up_to first_up_to some_up_to values_under values_below ascending put put_all assignment_cmp position_cmp matches some_ending byte_then piece_then visible_after is_utf8 chars encode_utf8 digits encode_with items_of members_of escaped_after escape_byte print_from answers effective_of last_of_each last_value strings_from asked_in told_value flag_after cut_back replaced value_of first_at last_after above first_given alike cost_at next_row rows nearest_of from_first up_to_colons closest_after last_matching last_assignments is_after
places_rows = (refl, refl)

pub place_rows : PlaceRows
unfolding pieces numbered trimmed first_section sections_from behind records_from tokens_from token_at item_at items_from bracket_at classes nodes nodes_of depth depth_of explained first_of once last_up_to first_up_to some_up_to values_under values_below ascending put put_all assignment_cmp position_cmp matches some_ending byte_then piece_then visible_after is_utf8 chars encode_utf8 digits encode_with items_of members_of escaped_after escape_byte print_from answers effective_of last_of_each last_value strings_from asked_in told_value flag_after cut_back replaced value_of first_at last_after above first_given alike cost_at next_row rows nearest_of from_first up_to_colons closest_after last_matching last_assignments is_after
place_rows = refl

pub id_rows : IdRows
unfolding pieces numbered trimmed first_section sections_from behind records_from tokens_from token_at item_at items_from bracket_at classes nodes nodes_of depth depth_of explained first_of once last_up_to first_up_to some_up_to values_under values_below ascending put put_all assignment_cmp position_cmp matches some_ending byte_then piece_then visible_after is_utf8 chars encode_utf8 digits encode_with items_of members_of escaped_after escape_byte print_from answers effective_of last_of_each last_value strings_from asked_in told_value flag_after cut_back replaced value_of first_at last_after above first_given alike cost_at next_row rows nearest_of from_first up_to_colons closest_after last_matching last_assignments is_after
id_rows = (refl, refl, refl, refl)

pub list_rows : ListRows
unfolding pieces numbered trimmed first_section sections_from behind records_from tokens_from token_at item_at items_from bracket_at classes nodes nodes_of depth depth_of explained first_of once last_up_to first_up_to some_up_to values_under values_below ascending put put_all assignment_cmp position_cmp matches some_ending byte_then piece_then visible_after is_utf8 chars encode_utf8 digits encode_with items_of members_of escaped_after escape_byte print_from answers effective_of last_of_each last_value strings_from asked_in told_value flag_after cut_back replaced value_of first_at last_after above first_given alike cost_at next_row rows nearest_of from_first up_to_colons closest_after last_matching last_assignments is_after
list_rows = refl

pub nothing_rows : NothingRows
unfolding pieces numbered trimmed first_section sections_from behind records_from tokens_from token_at item_at items_from bracket_at classes nodes nodes_of depth depth_of explained first_of once last_up_to first_up_to some_up_to values_under values_below ascending put put_all assignment_cmp position_cmp matches some_ending byte_then piece_then visible_after is_utf8 chars encode_utf8 digits encode_with items_of members_of escaped_after escape_byte print_from answers effective_of last_of_each last_value strings_from asked_in told_value flag_after cut_back replaced value_of first_at last_after above first_given alike cost_at next_row rows nearest_of from_first up_to_colons closest_after last_matching last_assignments is_after
nothing_rows = (refl, refl, refl, refl, refl)

pub name_rows : NameRows
unfolding pieces numbered trimmed first_section sections_from behind records_from tokens_from token_at item_at items_from bracket_at classes nodes nodes_of depth depth_of explained first_of once last_up_to first_up_to some_up_to values_under values_below ascending put put_all assignment_cmp position_cmp matches some_ending byte_then piece_then visible_after is_utf8 chars encode_utf8 digits encode_with items_of members_of escaped_after escape_byte print_from answers effective_of last_of_each last_value strings_from asked_in told_value flag_after cut_back replaced value_of first_at last_after above first_given alike cost_at next_row rows nearest_of from_first up_to_colons closest_after last_matching last_assignments is_after
name_rows = refl

pub text_rows : TextRows
unfolding pieces numbered trimmed first_section sections_from behind records_from tokens_from token_at item_at items_from bracket_at classes nodes nodes_of depth depth_of explained first_of once last_up_to first_up_to some_up_to values_under values_below ascending put put_all assignment_cmp position_cmp matches some_ending byte_then piece_then visible_after is_utf8 chars encode_utf8 digits encode_with items_of members_of escaped_after escape_byte print_from answers effective_of last_of_each last_value strings_from asked_in told_value flag_after cut_back replaced value_of first_at last_after above first_given alike cost_at next_row rows nearest_of from_first up_to_colons closest_after last_matching last_assignments is_after
text_rows = refl

pub file_rows : FileRows
unfolding pieces numbered trimmed first_section sections_from behind records_from tokens_from token_at item_at items_from bracket_at classes nodes nodes_of depth depth_of explained first_of once last_up_to first_up_to some_up_to values_under values_below ascending put put_all assignment_cmp position_cmp matches some_ending byte_then piece_then visible_after is_utf8 chars encode_utf8 digits encode_with items_of members_of escaped_after escape_byte print_from answers effective_of last_of_each last_value strings_from asked_in told_value flag_after cut_back replaced value_of first_at last_after above first_given alike cost_at next_row rows nearest_of from_first up_to_colons closest_after last_matching last_assignments is_after
file_rows =
    ap (λ es. found_form form.Lookups card (gathered (map pattern_of (map (λ e. e.1) es))) (lookups (told_of_files some_file []) card))
    (entries_built (map entry_of (reverse (all_assignments some_file []))))
    ∙ refl
