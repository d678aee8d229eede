-- The rows, computed.
use Rattle.hwdb_laws.specs.TaskRows.{BesidesRows, DashRows, DiffRows, JobRows, NamedRows, OtherRows, OverRows, PlainRows, ReadRows, ReplacedRows, ScanRows, StatusRows, TakenRows, ToldRows}
use Rattle.hex.specs.Hex.{encode_with}
use Rattle.hwdb_plan.specs.Sides.{taken_from}
use Rattle.hwdb_spec.specs.Answers.{effective_of, last_of_each, last_value}
use Rattle.hwdb_spec.specs.Assignment.{ascending, assignment_cmp, position_cmp, put, put_all}
use Rattle.hwdb_spec.specs.Explanations.{explained}
use Rattle.hwdb_spec.specs.Folders.{first_of}
use Rattle.hwdb_spec.specs.Lines.{numbered, pieces, trimmed}
use Rattle.hwdb_spec.specs.Patterns.{bracket_at, byte_then, classes, item_at, items_from, matches, piece_then, some_ending, token_at, tokens_from}
use Rattle.hwdb_spec.specs.Records.{behind, first_section, sections_from}
use Rattle.hwdb_spec.specs.Tree.{answers, some_up_to, values_below, values_under}
use Rattle.hwdb_spec.specs.Visible.{visible_after}
use Rattle.hwdb_spec_commands.specs.Json.{escaped_after, items_of, members_of}
use Rattle.hwdb_spec_commands.specs.Near.{first_up_to, last_up_to}
use Rattle.hwdb_spec_commands.specs.Once.{once}
use Rattle.hwdb_spec_commands.specs.OverText.{with_database}
use Rattle.hwdb_spec_commands.specs.Replacements.{replacements}
use Rattle.hwdb_spec_commands.specs.Summary.{depth, depth_of, nodes, nodes_of}
use Rattle.hwdb_spec_commands.specs.Wanted.{records_from}
use Rattle.json.specs.Print.{escape_byte, print_from}
use Rattle.std.specs.Char.{encode_utf8}
use Rattle.std.specs.Fmt.{digits}
use Rattle.std.specs.Str.{chars, is_utf8}
use Rattle.hwdb_laws.specs.TaskRows.{of_etc, of_usr}
use Rattle.hwdb_spec_commands.specs.Given.{any_dash, is_dash, is_input}
use Rattle.hwdb_spec_commands.specs.OverText.{said_besides}
use Rattle.hwdb_spec_commands.specs.Replacements.{replacements_form}
use Rattle.std.specs.Prelude.{◌==◌, ◌∷◌, [], false, not, true}
use Rattle.std.proofs.Common.{◌∙◌, refl}

pub plain_rows : PlainRows
unfolding pieces numbered trimmed first_section sections_from behind records_from tokens_from token_at item_at items_from bracket_at classes nodes nodes_of depth depth_of explained first_of once last_up_to first_up_to some_up_to values_under values_below ascending put put_all assignment_cmp position_cmp matches some_ending byte_then piece_then visible_after is_utf8 chars encode_utf8 digits encode_with items_of members_of escaped_after escape_byte print_from answers effective_of last_of_each last_value with_database replacements
plain_rows = (refl, refl, refl, refl, refl)

pub replaced_rows : ReplacedRows
unfolding pieces numbered trimmed first_section sections_from behind records_from tokens_from token_at item_at items_from bracket_at classes nodes nodes_of depth depth_of explained first_of once last_up_to first_up_to some_up_to values_under values_below ascending put put_all assignment_cmp position_cmp matches some_ending byte_then piece_then visible_after is_utf8 chars encode_utf8 digits encode_with items_of members_of escaped_after escape_byte print_from answers effective_of last_of_each last_value with_database replacements
replaced_rows = refl

pub read_rows : ReadRows
unfolding taken_from pieces numbered trimmed first_section sections_from behind records_from tokens_from token_at item_at items_from bracket_at classes nodes nodes_of depth depth_of explained first_of once last_up_to first_up_to some_up_to values_under values_below ascending put put_all assignment_cmp position_cmp matches some_ending byte_then piece_then visible_after is_utf8 chars encode_utf8 digits encode_with items_of members_of escaped_after escape_byte print_from answers effective_of last_of_each last_value with_database replacements
read_rows = refl

pub dash_rows : DashRows
dash_rows word other words w o ws =
    (λ i.
    is_input (ws i) ∷ is_dash (w i) ∷ is_dash (w i) ∷ is_dash (o i) ∷ false ∷ any_dash (ws i) ∷ any_dash (ws i) ∷ any_dash (ws i) ∷ is_input (ws i) ∷ is_dash (w i) ∷ is_dash (w i)
    ∷ is_input (ws i) ∷ is_input (w i ∷ []) ∷ false ∷ [])
    ∙ refl

pub scan_rows : ScanRows
scan_rows word other w o = (λ i. not (is_dash (w i)) ∷ not (is_dash (o i)) ∷ true ∷ true ∷ false ∷ []) ∙ refl

pub other_rows : OtherRows
other_rows word words w ws =
    (λ i.
    is_input (ws i) ∷ is_dash (w i) ∷ is_dash (w i) ∷ any_dash (ws i) ∷ any_dash (ws i) ∷ any_dash (ws i) ∷ is_input (ws i) ∷ any_dash (w i ∷ w i ∷ ws i) ∷ is_dash (w i) ∷ is_dash (w i)
    ∷ is_input (ws i) ∷ is_input (w i ∷ []) ∷ [])
    ∙ refl

pub diff_rows : DiffRows
diff_rows word other words others w o ws os =
    (λ i. any_dash (w i ∷ o i ∷ os i) ∷ any_dash (o i ∷ w i ∷ os i) ∷ any_dash (o i ∷ o i ∷ ws i) ∷ any_dash (o i ∷ o i ∷ os i) ∷ []) ∙ refl

pub named_rows : NamedRows
named_rows word words none w n =
    (λ i. (w i == 0) ∷ (n i == 0) ∷ (w i == 0) ∷ (n i == 0) ∷ false ∷ true ∷ false ∷ true ∷ false ∷ false ∷ false ∷ false ∷ false ∷ true ∷ []) ∙ refl

pub status_rows : StatusRows
status_rows word words = refl

pub job_rows : JobRows
job_rows root r = (refl, (λ i. r i ∷ [] ∷ []))

pub besides_rows : BesidesRows
unfolding pieces numbered trimmed first_section sections_from behind records_from tokens_from token_at item_at items_from bracket_at classes nodes nodes_of depth depth_of explained first_of once last_up_to first_up_to some_up_to values_under values_below ascending put put_all assignment_cmp position_cmp matches some_ending byte_then piece_then visible_after is_utf8 chars encode_utf8 digits encode_with items_of members_of escaped_after escape_byte print_from answers effective_of last_of_each last_value with_database replacements
besides_rows device dash d m =
    (λ i.
    said_besides (is_dash (d i)) (replacements_form false (d i) [] of_usr) ∷ said_besides (is_dash (m i)) (replacements_form false (m i) of_etc of_usr) ∷ []
    ∷ said_besides (is_dash (d i)) (replacements_form true (d i) of_etc of_usr) ∷ [])
    ∙ refl

pub told_rows : ToldRows
told_rows sight seen = (refl, refl, refl, refl, refl, refl)

pub over_rows : OverRows
unfolding with_database
over_rows sight seen = (refl, refl, refl, refl, refl, refl, refl)

pub taken_rows : TakenRows
taken_rows sight seen = (refl, refl, refl, refl, refl, refl, refl, refl, refl, refl)
