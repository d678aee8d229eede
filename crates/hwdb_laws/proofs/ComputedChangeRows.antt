-- The rows, computed.
use Rattle.hex.specs.Hex.{encode_with}
use Rattle.hwdb_laws.proofs.MapLemmas.{differences_built, places_built}
use Rattle.hwdb_laws.specs.ChangeRows.{DeviceRows, DifferenceRows, FileRows, JoinedRows, LineRows, PlaceRows, ReviewedFileRows, TableRows, a_k1, a_k2, a_l1, b_k1, c_of, file_of, of_b}
use Rattle.hwdb_spec.specs.Assignment.{ascending, assignment_cmp, position_cmp, put, put_all}
use Rattle.hwdb_spec_commands.specs.declared.args.Layout.TheVariants.{Lines}
use Rattle.hwdb_spec_commands.specs.ChangeForms.{changes_form}
use Rattle.hwdb_spec_commands.specs.Differences.{Change, changes_text}
use Rattle.hwdb_spec_commands.specs.Renamed.{groups}
use Rattle.hwdb_spec_commands.specs.Reviews.{reviewed}
use Rattle.hwdb_spec.specs.Folders.{all_assignments}
use Rattle.hwdb_spec.specs.Folders.{first_of}
use Rattle.hwdb_spec.specs.Lines.{numbered, pieces, trimmed}
use Rattle.hwdb_spec.specs.Records.{behind, first_section, sections_from}
use Rattle.hwdb_spec.specs.Tree.{entry_of}
use Rattle.hwdb_spec.specs.Visible.{visible_after}
use Rattle.std.proofs.Common.{◌∙◌, ap, false, refl, true, List}
use Rattle.std.specs.Char.{encode_utf8}
use Rattle.std.specs.Fmt.{digits}
use Rattle.std.specs.Prelude.{◌∷◌, [], codes, map, reverse}
use Rattle.std.specs.Str.{chars, is_utf8}

pub place_rows : PlaceRows
unfolding pieces numbered trimmed first_section sections_from behind ascending put put_all assignment_cmp position_cmp first_of visible_after is_utf8 chars encode_utf8 digits encode_with
place_rows = refl

pub joined_rows : JoinedRows
unfolding pieces numbered trimmed first_section sections_from behind ascending put put_all assignment_cmp position_cmp first_of visible_after is_utf8 chars encode_utf8 digits encode_with
joined_rows = places_built (map entry_of (a_k1 ∷ a_l1 ∷ c_of (codes "f") ∷ [])) (map entry_of (c_of (codes "g") ∷ b_k1 ∷ a_k2 ∷ [])) ∙ refl

pub difference_rows : DifferenceRows
unfolding pieces numbered trimmed first_section sections_from behind ascending put put_all assignment_cmp position_cmp first_of visible_after is_utf8 chars encode_utf8 digits encode_with
difference_rows = λ i.
    differences_built (map entry_of (a_k1 ∷ a_l1 ∷ c_of (codes "f") ∷ [])) (map entry_of (c_of (codes "g") ∷ b_k1 ∷ a_k2 ∷ [])) i
    ∷ differences_built (map entry_of (c_of (codes "g") ∷ b_k1 ∷ a_k2 ∷ [])) (map entry_of (a_k1 ∷ a_l1 ∷ c_of (codes "f") ∷ [])) i
    ∷ differences_built (map entry_of (a_k1 ∷ a_l1 ∷ c_of (codes "f") ∷ [])) (map entry_of (a_k1 ∷ a_l1 ∷ c_of (codes "f") ∷ [])) i ∷ []

pub line_rows : LineRows
unfolding pieces numbered trimmed first_section sections_from behind ascending put put_all assignment_cmp position_cmp first_of visible_after is_utf8 chars encode_utf8 digits encode_with
line_rows = refl

pub device_rows : DeviceRows
unfolding pieces numbered trimmed first_section sections_from behind ascending put put_all assignment_cmp position_cmp first_of visible_after is_utf8 chars encode_utf8 digits encode_with
device_rows = refl

pub table_rows : TableRows
unfolding visible_after is_utf8 chars encode_utf8 digits encode_with groups
table_rows = refl

pub file_rows : FileRows
unfolding pieces numbered trimmed first_section sections_from behind ascending put put_all assignment_cmp position_cmp first_of visible_after is_utf8 chars encode_utf8 digits encode_with
file_rows =
    ap changes_text (differences_built
    (map entry_of (reverse (all_assignments [] (file_of (codes "1.hwdb") (codes "a*\n K=1\n L=1\n") ∷ []))))
    (map entry_of (reverse (all_assignments (file_of (codes "2.hwdb") (codes "a*\n K=2\n") ∷ []) (file_of (codes "1.hwdb") (codes "a*\n K=1\n") ∷ [])))))
    ∙ refl

pub reviewed_file_rows : ReviewedFileRows
unfolding pieces numbered trimmed first_section sections_from behind ascending put put_all assignment_cmp position_cmp first_of visible_after is_utf8 chars encode_utf8 digits encode_with
reviewed_file_rows =
    ap (λ (cs : List Change). changes_form false Lines (reviewed of_b cs)) (differences_built
    (map entry_of (reverse (all_assignments [] (file_of (codes "1.hwdb") (codes "a*\n K=1\n\nb*\n K=1\n") ∷ []))))
    (map entry_of (reverse (all_assignments (file_of (codes "2.hwdb") (codes "a*\n K=2\n\nb*\n K=2\n") ∷ []) (file_of (codes "1.hwdb") (codes "b*\n K=1\n") ∷ [])))))
    ∙ refl
