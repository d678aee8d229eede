-- The rows, computed.
use Rattle.hex.specs.Hex.{encode_with}
use Rattle.hwdb_laws.proofs.MapLemmas.{entries_built}
use Rattle.hwdb_laws.specs.SaidRows.{DeepRows, ExplainRows, FaultRows, HidingRows, NearJsonRows, NearRows, ProgressRows, SummaryRows, of_etc, of_usr}
use Rattle.hwdb_spec.specs.Assignment.{ascending, assignment_cmp, position_cmp, put, put_all}
use Rattle.hwdb_spec.specs.Explanations.{explained}
use Rattle.hwdb_spec.specs.Folders.{all_assignments, chosen_of, contents, faults_of_files}
use Rattle.hwdb_spec.specs.Folders.{first_of}
use Rattle.hwdb_spec_commands.specs.Json.{escaped_after, items_of, members_of}
use Rattle.hwdb_spec.specs.Lines.{numbered, pieces, trimmed}
use Rattle.hwdb_spec_commands.specs.Near.{first_up_to, last_up_to}
use Rattle.hwdb_spec_commands.specs.Once.{once}
use Rattle.hwdb_spec.specs.Patterns.{bracket_at, byte_then, classes, item_at, items_from, matches, piece_then, some_ending, token_at, tokens_from}
use Rattle.hwdb_spec_commands.specs.Progress.{chosen_line, deep_line, given_count, kept_line, too_long_lines}
use Rattle.hwdb_spec.specs.Records.{behind, first_section, sections_from}
use Rattle.hwdb_spec_commands.specs.Summary.{depth, depth_of, nodes, nodes_of}
use Rattle.hwdb_spec.specs.Texts.{faults_text}
use Rattle.hwdb_spec.specs.Tree.{entry_of, map_of_files}
use Rattle.hwdb_spec.specs.Tree.{some_up_to, values_below, values_under}
use Rattle.hwdb_spec.specs.Visible.{visible_after}
use Rattle.json.specs.Print.{escape_byte, print_from}
use Rattle.std.proofs.Common.{◌∙◌, ap, refl}
use Rattle.std.specs.Char.{encode_utf8}
use Rattle.std.specs.FinMap as finite
use Rattle.std.specs.Fmt.{digits}
use Rattle.std.specs.Prelude.{◌++◌, ◌∷◌, [], codes, flat_map, length, map, reverse}
use Rattle.std.specs.Str.{chars, is_utf8}

pub summary_rows : SummaryRows
unfolding pieces numbered trimmed first_section sections_from behind tokens_from token_at item_at items_from bracket_at classes nodes nodes_of depth depth_of explained first_of once last_up_to first_up_to some_up_to values_under values_below ascending put put_all assignment_cmp position_cmp matches some_ending byte_then piece_then visible_after is_utf8 chars encode_utf8 digits encode_with items_of members_of escaped_after escape_byte print_from
summary_rows = (refl, refl)

pub progress_rows : ProgressRows
unfolding pieces numbered trimmed first_section sections_from behind tokens_from token_at item_at items_from bracket_at classes nodes nodes_of depth depth_of explained first_of once last_up_to first_up_to some_up_to values_under values_below ascending put put_all assignment_cmp position_cmp matches some_ending byte_then piece_then visible_after is_utf8 chars encode_utf8 digits encode_with items_of members_of escaped_after escape_byte print_from
progress_rows =
    ap (λ n.
    (((flat_map (chosen_line (codes "2.hwdb" ∷ codes "1.hwdb" ∷ [])) (chosen_of of_etc of_usr) ++ kept_line (length (chosen_of of_etc of_usr)) (given_count of_etc of_usr) n)
    ++ flat_map (too_long_lines (contents of_etc of_usr)) (chosen_of of_etc of_usr)) ++ deep_line 3) ++ faults_text (faults_of_files of_etc of_usr))
    (finite.len-entries (map_of_files of_etc of_usr) ∙ ap length (entries_built (map entry_of (reverse (all_assignments of_etc of_usr)))))
    ∙ refl

pub fault_rows : FaultRows
unfolding pieces numbered trimmed first_section sections_from behind tokens_from token_at item_at items_from bracket_at classes nodes nodes_of depth depth_of explained first_of once last_up_to first_up_to some_up_to values_under values_below ascending put put_all assignment_cmp position_cmp matches some_ending byte_then piece_then visible_after is_utf8 chars encode_utf8 digits encode_with items_of members_of escaped_after escape_byte print_from
fault_rows = refl

pub deep_rows : DeepRows
unfolding pieces numbered trimmed first_section sections_from behind tokens_from token_at item_at items_from bracket_at classes nodes nodes_of depth depth_of explained first_of once last_up_to first_up_to some_up_to values_under values_below ascending put put_all assignment_cmp position_cmp matches some_ending byte_then piece_then visible_after is_utf8 chars encode_utf8 digits encode_with items_of members_of escaped_after escape_byte print_from
deep_rows = refl

pub hiding_rows : HidingRows
unfolding pieces numbered trimmed first_section sections_from behind tokens_from token_at item_at items_from bracket_at classes nodes nodes_of depth depth_of explained first_of once last_up_to first_up_to some_up_to values_under values_below ascending put put_all assignment_cmp position_cmp matches some_ending byte_then piece_then visible_after is_utf8 chars encode_utf8 digits encode_with items_of members_of escaped_after escape_byte print_from
hiding_rows = refl

pub explain_rows : ExplainRows
unfolding pieces numbered trimmed first_section sections_from behind tokens_from token_at item_at items_from bracket_at classes nodes nodes_of depth depth_of explained first_of once last_up_to first_up_to some_up_to values_under values_below ascending put put_all assignment_cmp position_cmp matches some_ending byte_then piece_then visible_after is_utf8 chars encode_utf8 digits encode_with items_of members_of escaped_after escape_byte print_from
explain_rows = refl

pub near_rows : NearRows
unfolding pieces numbered trimmed first_section sections_from behind tokens_from token_at item_at items_from bracket_at classes nodes nodes_of depth depth_of explained first_of once last_up_to first_up_to some_up_to values_under values_below ascending put put_all assignment_cmp position_cmp matches some_ending byte_then piece_then visible_after is_utf8 chars encode_utf8 digits encode_with items_of members_of escaped_after escape_byte print_from
near_rows = refl

pub near_json_rows : NearJsonRows
unfolding pieces numbered trimmed first_section sections_from behind tokens_from token_at item_at items_from bracket_at classes nodes nodes_of depth depth_of explained first_of once last_up_to first_up_to some_up_to values_under values_below ascending put put_all assignment_cmp position_cmp matches some_ending byte_then piece_then visible_after is_utf8 chars encode_utf8 digits encode_with items_of members_of escaped_after escape_byte print_from
near_json_rows = refl
