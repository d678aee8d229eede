-- Worked rows, computed.
use Rattle.std.proofs.Common.{refl}
use Rattle.std.specs.Char.{encode_utf8}
use Rattle.std.specs.Fmt.{digits}
use Rattle.std.specs.Str.{chars, is_utf8}
use Rattle.hwdb_spec.specs.Format.{number_at}
use Rattle.hwdb_spec.specs.Lines.{pieces}
use Rattle.hwdb_spec.specs.Visible.{visible_after}
use Rattle.hwdb_spec_commands.specs.Scans.{lines_from, pressed_line, records_after, scan_text}
use Rattle.hwdb_scan.specs.Rows.{CountRows, CutRows, KeyRows, NameRows, OtherRows, PathRows, SaidRows, WholeRows}
use Rattle.hwdb_scan.specs.Views.{after_bytes, bytes_text}

pub key_rows : KeyRows
unfolding after_bytes bytes_text digits lines_from number_at pieces pressed_line records_after scan_text
key_rows = refl

pub other_rows : OtherRows
unfolding after_bytes bytes_text digits lines_from number_at pieces pressed_line records_after scan_text
other_rows = refl

pub cut_rows : CutRows
unfolding after_bytes bytes_text digits lines_from number_at pieces pressed_line records_after scan_text
cut_rows = (refl, refl)

pub count_rows : CountRows
unfolding after_bytes bytes_text digits lines_from number_at pieces pressed_line records_after scan_text
count_rows = refl

pub whole_rows : WholeRows
unfolding after_bytes bytes_text digits lines_from number_at pieces pressed_line records_after scan_text
whole_rows = refl

pub name_rows : NameRows
unfolding after_bytes bytes_text digits lines_from number_at pieces pressed_line records_after scan_text
name_rows = refl

pub path_rows : PathRows
path_rows = (refl, refl, refl)

pub said_rows : SaidRows
unfolding visible_after is_utf8 chars encode_utf8
said_rows = refl
