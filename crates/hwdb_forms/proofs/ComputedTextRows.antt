-- The worked rows of texts, computed.
use Rattle.std.proofs.Common.{refl}
use Rattle.hwdb_spec.specs.Forms.{all_bytes_from}
use Rattle.hwdb_spec.specs.Patterns.{bracket_at, classes, item_at, items_from, token_at, tokens_from}
use Rattle.hwdb_spec_commands.specs.FormTexts.{byte_texts, counted_texts, either_texts, end_texts, field_texts, fields_texts, fixed_texts, many_texts, no_texts, pieces_texts, text_among}
use Rattle.hwdb_spec_commands.specs.SampleTexts.{usual}
use Rattle.hwdb_forms.specs.TextRows.{AmongRows, ByteRows, CountedRows, FilledRows, NamedTextRows, RepeatedRows, UsbTextRows, WayRows}

pub counted_rows_hold : CountedRows
unfolding byte_texts counted_texts either_texts end_texts field_texts fields_texts fixed_texts no_texts pieces_texts tokens_from token_at bracket_at items_from item_at classes usual all_bytes_from
counted_rows_hold = refl

pub repeated_rows_hold : RepeatedRows
unfolding byte_texts many_texts either_texts end_texts field_texts fields_texts fixed_texts no_texts pieces_texts tokens_from token_at bracket_at items_from item_at classes usual all_bytes_from
repeated_rows_hold = refl

pub way_rows_hold : WayRows
unfolding byte_texts either_texts end_texts field_texts fields_texts fixed_texts no_texts pieces_texts tokens_from token_at usual all_bytes_from
way_rows_hold = (refl, refl)

pub among_rows_hold : AmongRows
unfolding text_among byte_texts counted_texts either_texts end_texts field_texts fields_texts fixed_texts no_texts pieces_texts tokens_from token_at usual all_bytes_from
among_rows_hold = refl

pub byte_rows_hold : ByteRows
unfolding byte_texts many_texts either_texts end_texts field_texts fields_texts fixed_texts no_texts pieces_texts usual all_bytes_from
byte_rows_hold = refl

pub filled_rows_hold : FilledRows
unfolding byte_texts many_texts either_texts end_texts field_texts fields_texts fixed_texts no_texts pieces_texts tokens_from token_at usual all_bytes_from
filled_rows_hold = (refl, refl)

pub usb_text_rows_hold : UsbTextRows
unfolding byte_texts many_texts counted_texts either_texts end_texts field_texts fields_texts fixed_texts no_texts pieces_texts tokens_from token_at usual all_bytes_from
usb_text_rows_hold = refl

pub named_text_rows_hold : NamedTextRows
unfolding byte_texts many_texts counted_texts either_texts end_texts field_texts fields_texts fixed_texts no_texts pieces_texts tokens_from token_at usual all_bytes_from
named_text_rows_hold = (refl, refl, refl)
