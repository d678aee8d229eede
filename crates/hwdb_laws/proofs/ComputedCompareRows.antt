-- The rows, computed.
use Rattle.hwdb_laws.specs.CompareRows.{AmountRows, ChangeRows, ChosenRows, DeviceTextRows, FirstDeviceRows, GivenRows, LastDeviceRows, NamedRows, PassRows, PatternRows, RecordRows, RenamedRows, SameRows, SecondDeviceRows, StaleRows, StatusRows, TextRows, UnmetRows, WhichRows}
use Rattle.hex.specs.Hex.{encode_with}
use Rattle.hwdb_spec.specs.Answers.{effective_of, is_after, last_assignments, last_matching, last_of_each, last_value}
use Rattle.hwdb_spec.specs.Assignment.{ascending, assignment_cmp, position_cmp, put, put_all}
use Rattle.hwdb_spec_commands.specs.Dump.{dumped, is_said}
use Rattle.hwdb_spec.specs.Explanations.{explained}
use Rattle.hwdb_spec.specs.Folders.{first_of}
use Rattle.hwdb_spec_commands.specs.Json.{escaped_after, items_of, members_of}
use Rattle.hwdb_spec.specs.Lines.{numbered, pieces, trimmed}
use Rattle.hwdb_spec_commands.specs.Near.{first_up_to, last_up_to}
use Rattle.hwdb_spec_commands.specs.Once.{once}
use Rattle.hwdb_spec.specs.Patterns.{bracket_at, byte_then, classes, item_at, items_from, matches, piece_then, some_ending, token_at, tokens_from}
use Rattle.hwdb_spec.specs.Records.{behind, first_section, sections_from}
use Rattle.hwdb_spec_commands.specs.Summary.{depth, depth_of, nodes, nodes_of}
use Rattle.hwdb_spec.specs.Texts.{with_empty_lines}
use Rattle.hwdb_spec.specs.Tree.{answers, answers_after, prefix_of, some_up_to, values_below, values_of, values_under}
use Rattle.hwdb_spec.specs.Visible.{visible_after}
use Rattle.hwdb_spec_commands.specs.Wanted.{records_from}
use Rattle.json.specs.Print.{escape_byte, print_from}
use Rattle.std.specs.Char.{encode_utf8}
use Rattle.std.specs.Fmt.{digits}
use Rattle.std.specs.Str.{chars, is_utf8}
use Rattle.hwdb_laws.proofs.MapLemmas.{Entry, differences_built, entries_built}
use Rattle.hwdb_laws.specs.CompareRows.{as_counts, as_json, by_record, choosing, new_tree, of_usr, old_tree, plainly, some_devices, telling}
use Rattle.hwdb_spec_commands.specs.ChangeCounts.{counted, no_stat, stat_form, with_changes, with_devices, with_told}
use Rattle.hwdb_spec_commands.specs.declared.args.Layout.TheVariants.{Grouped}
use Rattle.hwdb_spec_commands.specs.ChangeForms.{changes_form, device_changes_form}
use Rattle.hwdb_spec_commands.specs.Renamed.{any_went, first_came, groups, properties}
use Rattle.hwdb_spec_commands.specs.Reviews.{Review, reviewed}
use Rattle.hwdb_spec_commands.specs.Sides.{file_name}
use Rattle.hwdb_spec_commands.specs.Unmet.{unmet_end, unmet_said}
use Rattle.hwdb_spec_commands.specs.DeviceDifferences.{counting_answers, device_differences, gifts, given_to}
use Rattle.hwdb_spec_commands.specs.Differences.{Change, are_some, changes_text, differences}
use Rattle.hwdb_spec.specs.Folders.{all_assignments}
use Rattle.hwdb_spec_commands.specs.NearAsked.{gathered, pattern_of}
use Rattle.hwdb_spec.specs.Tree.{Tree, entry_of, map_of, members_under}
use Rattle.std.specs.Prelude.{◌++◌, ◌∷◌, ◌≡◌, List, None, Some, [], codes, false, if◌then◌else◌, map, reverse, true, ◌||◌, ℕ}
use Rattle.std.proofs.Common.{◌∙◌, ap, refl}

pub named_rows : NamedRows
unfolding pieces numbered trimmed first_section sections_from behind records_from tokens_from token_at item_at items_from bracket_at classes nodes nodes_of depth depth_of explained first_of once last_up_to first_up_to some_up_to values_under values_below ascending put put_all assignment_cmp position_cmp matches some_ending byte_then piece_then visible_after is_utf8 chars encode_utf8 digits encode_with items_of members_of escaped_after escape_byte print_from answers effective_of last_of_each last_value last_matching last_assignments is_after answers_after prefix_of values_of with_empty_lines dumped is_said
named_rows = refl

pub stale_rows : StaleRows
unfolding pieces numbered trimmed first_section sections_from behind records_from tokens_from token_at item_at items_from bracket_at classes nodes nodes_of depth depth_of explained first_of once last_up_to first_up_to some_up_to values_under values_below ascending put put_all assignment_cmp position_cmp matches some_ending byte_then piece_then visible_after is_utf8 chars encode_utf8 digits encode_with items_of members_of escaped_after escape_byte print_from answers effective_of last_of_each last_value last_matching last_assignments is_after answers_after prefix_of values_of with_empty_lines dumped is_said
stale_rows = refl

pub amount_rows : AmountRows
unfolding pieces numbered trimmed first_section sections_from behind records_from tokens_from token_at item_at items_from bracket_at classes nodes nodes_of depth depth_of explained first_of once last_up_to first_up_to some_up_to values_under values_below ascending put put_all assignment_cmp position_cmp matches some_ending byte_then piece_then visible_after is_utf8 chars encode_utf8 digits encode_with items_of members_of escaped_after escape_byte print_from answers effective_of last_of_each last_value last_matching last_assignments is_after answers_after prefix_of values_of with_empty_lines dumped is_said
amount_rows = refl

entries_in : Tree → List Entry
entries_in t = map entry_of (members_under [] t)

pub change_rows : ChangeRows
unfolding pieces numbered trimmed first_section sections_from behind records_from tokens_from token_at item_at items_from bracket_at classes nodes nodes_of depth depth_of explained first_of once last_up_to first_up_to some_up_to values_under values_below ascending put put_all assignment_cmp position_cmp matches some_ending byte_then piece_then visible_after is_utf8 chars encode_utf8 digits encode_with items_of members_of escaped_after escape_byte print_from answers effective_of last_of_each last_value last_matching last_assignments is_after answers_after prefix_of values_of with_empty_lines dumped is_said map_of entries_in
change_rows = differences_built (entries_in old_tree) (entries_in new_tree) ∙ refl

no_changes : differences (map_of old_tree) (map_of old_tree) ≡ []
unfolding pieces numbered trimmed first_section sections_from behind records_from tokens_from token_at item_at items_from bracket_at classes nodes nodes_of depth depth_of explained first_of once last_up_to first_up_to some_up_to values_under values_below ascending put put_all assignment_cmp position_cmp matches some_ending byte_then piece_then visible_after is_utf8 chars encode_utf8 digits encode_with items_of members_of escaped_after escape_byte print_from answers effective_of last_of_each last_value last_matching last_assignments is_after answers_after prefix_of values_of with_empty_lines dumped is_said map_of entries_in
no_changes = differences_built (entries_in old_tree) (entries_in old_tree) ∙ refl

entries_to : List ℕ → Tree → List Entry
entries_to d t = map entry_of (map (given_to d) (counting_answers d t))

pub first_device_rows : FirstDeviceRows
unfolding pieces numbered trimmed first_section sections_from behind records_from tokens_from token_at item_at items_from bracket_at classes nodes nodes_of depth depth_of explained first_of once last_up_to first_up_to some_up_to values_under values_below ascending put put_all assignment_cmp position_cmp matches some_ending byte_then piece_then visible_after is_utf8 chars encode_utf8 digits encode_with items_of members_of escaped_after escape_byte print_from answers effective_of last_of_each last_value last_matching last_assignments is_after answers_after prefix_of values_of with_empty_lines dumped is_said device_differences gifts entries_to
first_device_rows = differences_built (entries_to (codes "ab") old_tree) (entries_to (codes "ab") new_tree) ∙ refl

pub second_device_rows : SecondDeviceRows
unfolding pieces numbered trimmed first_section sections_from behind records_from tokens_from token_at item_at items_from bracket_at classes nodes nodes_of depth depth_of explained first_of once last_up_to first_up_to some_up_to values_under values_below ascending put put_all assignment_cmp position_cmp matches some_ending byte_then piece_then visible_after is_utf8 chars encode_utf8 digits encode_with items_of members_of escaped_after escape_byte print_from answers effective_of last_of_each last_value last_matching last_assignments is_after answers_after prefix_of values_of with_empty_lines dumped is_said device_differences gifts entries_to
second_device_rows = differences_built (entries_to (codes "b") old_tree) (entries_to (codes "b") new_tree) ∙ refl

pub last_device_rows : LastDeviceRows
unfolding pieces numbered trimmed first_section sections_from behind records_from tokens_from token_at item_at items_from bracket_at classes nodes nodes_of depth depth_of explained first_of once last_up_to first_up_to some_up_to values_under values_below ascending put put_all assignment_cmp position_cmp matches some_ending byte_then piece_then visible_after is_utf8 chars encode_utf8 digits encode_with items_of members_of escaped_after escape_byte print_from answers effective_of last_of_each last_value last_matching last_assignments is_after answers_after prefix_of values_of with_empty_lines dumped is_said device_differences gifts entries_to
last_device_rows = differences_built (entries_to (codes "x") old_tree) (entries_to (codes "x") new_tree) ∙ refl

-- what is printed of all changes
abbrev told_all : Review → List Change → List ℕ
told_all r c = (if r.stat then stat_form r.json None (with_changes no_stat (reviewed r c)) else changes_form r.json r.layout (reviewed r c)) ++ []

pub text_rows : TextRows
unfolding pieces numbered trimmed first_section sections_from behind records_from tokens_from token_at item_at items_from bracket_at classes nodes nodes_of depth depth_of explained first_of once last_up_to first_up_to some_up_to values_under values_below ascending put put_all assignment_cmp position_cmp matches some_ending byte_then piece_then visible_after is_utf8 chars encode_utf8 digits encode_with items_of members_of escaped_after escape_byte print_from answers effective_of last_of_each last_value last_matching last_assignments is_after answers_after prefix_of values_of with_empty_lines dumped is_said counted with_changes file_name
text_rows =
    ap (λ c. told_all plainly c ∷ told_all as_json c ∷ told_all (as_counts false) c ∷ told_all (as_counts true) c ∷ changes_text c ∷ []) change_rows
    ∙ refl

pub record_rows : RecordRows
unfolding pieces numbered trimmed first_section sections_from behind records_from tokens_from token_at item_at items_from bracket_at classes nodes nodes_of depth depth_of explained first_of once last_up_to first_up_to some_up_to values_under values_below ascending put put_all assignment_cmp position_cmp matches some_ending byte_then piece_then visible_after is_utf8 chars encode_utf8 digits encode_with items_of members_of escaped_after escape_byte print_from answers effective_of last_of_each last_value last_matching last_assignments is_after answers_after prefix_of values_of with_empty_lines dumped is_said file_name groups properties first_came any_went
record_rows = (λ i. told_all by_record (change_rows i) ∷ told_all by_record (no_changes i) ∷ [] ∷ []) ∙ refl

pub renamed_rows : RenamedRows
unfolding groups properties first_came any_went visible_after is_utf8 chars encode_utf8 digits
renamed_rows = refl

-- what is printed of these three devices
abbrev told_for : Review → (first last second all : List Change) → List ℕ
told_for r first last second all =
    (device_changes_form r.json r.layout (codes "ab") (reviewed r first)
    ++ (device_changes_form r.json r.layout (codes "x") (reviewed r last) ++ (device_changes_form r.json r.layout (codes "b") (reviewed r second) ++ [])))
    ++ unmet_end r (Some some_devices) old_tree new_tree (reviewed r all)

pub device_text_rows : DeviceTextRows
unfolding pieces numbered trimmed first_section sections_from behind records_from tokens_from token_at item_at items_from bracket_at classes nodes nodes_of depth depth_of explained first_of once last_up_to first_up_to some_up_to values_under values_below ascending put put_all assignment_cmp position_cmp matches some_ending byte_then piece_then visible_after is_utf8 chars encode_utf8 digits encode_with items_of members_of escaped_after escape_byte print_from answers effective_of last_of_each last_value last_matching last_assignments is_after answers_after prefix_of values_of with_empty_lines dumped is_said counted with_changes with_devices file_name
device_text_rows =
    (λ i.
    told_for plainly (first_device_rows i) (last_device_rows i) (second_device_rows i) (change_rows i)
    ∷ told_for as_json (first_device_rows i) (last_device_rows i) (second_device_rows i) (change_rows i)
    ∷ (stat_form false (Some some_devices)
    (with_told (with_told (with_told no_stat (reviewed (as_counts false) (first_device_rows i))) (reviewed (as_counts false) (last_device_rows i))) (reviewed (as_counts false) (second_device_rows i)))
    ++ unmet_end (as_counts false) (Some some_devices) old_tree new_tree (reviewed (as_counts false) (change_rows i))) ∷ [])
    ∙ refl

pub status_rows : StatusRows
unfolding pieces numbered trimmed first_section sections_from behind records_from tokens_from token_at item_at items_from bracket_at classes nodes nodes_of depth depth_of explained first_of once last_up_to first_up_to some_up_to values_under values_below ascending put put_all assignment_cmp position_cmp matches some_ending byte_then piece_then visible_after is_utf8 chars encode_utf8 digits encode_with items_of members_of escaped_after escape_byte print_from answers effective_of last_of_each last_value last_matching last_assignments is_after answers_after prefix_of values_of with_empty_lines dumped is_said file_name
status_rows =
    (λ i.
    are_some (change_rows i) ∷ are_some (reviewed plainly (change_rows i)) ∷ (are_some (reviewed plainly (first_device_rows i)) || false)
    ∷ (are_some (reviewed plainly (last_device_rows i)) || false) ∷ [])
    ∙ refl

pub same_rows : SameRows
same_rows = ap (λ c. are_some c ∷ are_some (reviewed plainly c) ∷ []) no_changes

-- ---- what devices don't meet

pub unmet_rows : UnmetRows
unfolding pieces numbered trimmed first_section sections_from behind records_from tokens_from token_at item_at items_from bracket_at classes nodes nodes_of depth depth_of explained first_of once last_up_to first_up_to some_up_to values_under values_below ascending put put_all assignment_cmp position_cmp matches some_ending byte_then piece_then visible_after is_utf8 chars encode_utf8 digits encode_with items_of members_of escaped_after escape_byte print_from answers effective_of last_of_each last_value last_matching last_assignments is_after answers_after prefix_of values_of with_empty_lines dumped is_said file_name
unmet_rows =
    ap (λ c. map (λ devices. unmet_said by_record (Some devices) old_tree new_tree (reviewed by_record c))
    ((codes "ab" ∷ []) ∷ (codes "b" ∷ []) ∷ (codes "x" ∷ codes "y" ∷ []) ∷ (codes "x" ∷ codes "ab" ∷ []) ∷ [] ∷ some_devices ∷ [])) change_rows
    ∙ refl

no_device_changes : device_differences (codes "x") old_tree old_tree ≡ []
unfolding pieces numbered trimmed first_section sections_from behind records_from tokens_from token_at item_at items_from bracket_at classes nodes nodes_of depth depth_of explained first_of once last_up_to first_up_to some_up_to values_under values_below ascending put put_all assignment_cmp position_cmp matches some_ending byte_then piece_then visible_after is_utf8 chars encode_utf8 digits encode_with items_of members_of escaped_after escape_byte print_from answers effective_of last_of_each last_value last_matching last_assignments is_after answers_after prefix_of values_of with_empty_lines dumped is_said device_differences gifts entries_to
no_device_changes = differences_built (entries_to (codes "x") old_tree) (entries_to (codes "x") old_tree) ∙ refl

-- what is printed of one device
abbrev told_of : (device : List ℕ) (new : Tree) (its all : List Change) → List ℕ
told_of device new its all =
    (device_changes_form true Grouped device (reviewed (telling true) its) ++ []) ++ unmet_end (telling true) (Some (device ∷ [])) old_tree new (reviewed (telling true) all)

pub which_rows : WhichRows
unfolding pieces numbered trimmed first_section sections_from behind records_from tokens_from token_at item_at items_from bracket_at classes nodes nodes_of depth depth_of explained first_of once last_up_to first_up_to some_up_to values_under values_below ascending put put_all assignment_cmp position_cmp matches some_ending byte_then piece_then visible_after is_utf8 chars encode_utf8 digits encode_with items_of members_of escaped_after escape_byte print_from answers effective_of last_of_each last_value last_matching last_assignments is_after answers_after prefix_of values_of with_empty_lines dumped is_said file_name
which_rows =
    (λ i.
    unmet_said (telling false) (Some (codes "b" ∷ [])) old_tree new_tree (reviewed (telling false) (change_rows i)) ∷ [] ∷ told_of (codes "x") old_tree (no_device_changes i) (no_changes i)
    ∷ told_of (codes "ab") new_tree (first_device_rows i) (change_rows i) ∷ [])
    ∙ refl

-- ---- which changes count

pub chosen_rows : ChosenRows
unfolding pieces numbered trimmed first_section sections_from behind records_from tokens_from token_at item_at items_from bracket_at classes nodes nodes_of depth depth_of explained first_of once last_up_to first_up_to some_up_to values_under values_below ascending put put_all assignment_cmp position_cmp matches some_ending byte_then piece_then visible_after is_utf8 chars encode_utf8 digits encode_with items_of members_of escaped_after escape_byte print_from answers effective_of last_of_each last_value last_matching last_assignments is_after answers_after prefix_of values_of with_empty_lines dumped is_said file_name
chosen_rows =
    ap (λ c. map (λ r. told_all r c)
    (choosing (codes "f" ∷ []) [] [] ∷ choosing [] (codes "[fx]" ∷ []) [] ∷ choosing (codes "*" ∷ []) (codes "f" ∷ codes "?" ∷ []) []
    ∷ choosing [] [] (codes "b" ∷ codes "c" ∷ []) ∷ choosing [] [] (codes "*" ∷ []) ∷ [])) change_rows
    ∙ refl

pub pass_rows : PassRows
unfolding pieces numbered trimmed first_section sections_from behind records_from tokens_from token_at item_at items_from bracket_at classes nodes nodes_of depth depth_of explained first_of once last_up_to first_up_to some_up_to values_under values_below ascending put put_all assignment_cmp position_cmp matches some_ending byte_then piece_then visible_after is_utf8 chars encode_utf8 digits encode_with items_of members_of escaped_after escape_byte print_from answers effective_of last_of_each last_value last_matching last_assignments is_after answers_after prefix_of values_of with_empty_lines dumped is_said file_name
pass_rows = refl

pub given_rows : GivenRows
given_rows = refl

pub pattern_rows : PatternRows
unfolding pieces numbered trimmed first_section sections_from behind records_from tokens_from token_at item_at items_from bracket_at classes nodes nodes_of depth depth_of explained first_of once last_up_to first_up_to some_up_to values_under values_below ascending put put_all assignment_cmp position_cmp matches some_ending byte_then piece_then visible_after is_utf8 chars encode_utf8 digits encode_with items_of members_of escaped_after escape_byte print_from answers effective_of last_of_each last_value last_matching last_assignments is_after answers_after prefix_of values_of with_empty_lines dumped is_said
pattern_rows = ap (λ es. gathered (map pattern_of (map (λ e. e.1) es))) (entries_built (map entry_of (reverse (all_assignments [] of_usr)))) ∙ refl
