-- The worked rows, computed.
use Rattle.std.proofs.Common.{refl}
use Rattle.std.specs.Fmt.{digits}
use Rattle.hwdb_spec.specs.Assignment.{ascending, assignment_cmp, position_cmp, put, put_all}
use Rattle.hwdb_spec.specs.Folders.{first_of}
use Rattle.hwdb_spec.specs.Records.{behind, first_section, sections_from}
use Rattle.hwdb_spec_commands.specs.Once.{once}
use Rattle.hwdb_spec_commands.specs.Replacements.{replacements}
use Rattle.hwdb_spec.specs.Lines.{numbered, pieces, trimmed}
use Rattle.hwdb_spec.specs.Patterns.{bracket_at, byte_then, classes, item_at, items_from, matches, piece_then, some_ending, token_at, tokens_from}
use Rattle.hwdb_spec.specs.Tree.{some_up_to}
use Rattle.hwdb_spec_commands.specs.Near.{first_up_to, last_up_to}
use Rattle.hwdb_spec.specs.Visible.{visible_after}
use Rattle.std.specs.Str.{chars, is_utf8}
use Rattle.std.specs.Char.{encode_utf8}
use Rattle.hwdb_near.specs.Rows.{FileRows, GatheredRows, HeadRows, MarkRows, MaskedRows, MatchingRows, NearestRows, OrderRows, PlaceRows, RatedRows, RepeatedRows, ReplacedFileRows, ReplacedRows, ReplacedTextRows, StopRows, WordRows}

pub stop_rows : StopRows
unfolding tokens_from token_at bracket_at items_from item_at classes some_ending byte_then piece_then matches some_up_to last_up_to first_up_to
stop_rows = refl

pub rated_rows : RatedRows
unfolding tokens_from token_at bracket_at items_from item_at classes some_ending byte_then piece_then matches some_up_to last_up_to first_up_to
rated_rows = refl

pub nearest_rows : NearestRows
unfolding put put_all tokens_from token_at bracket_at items_from item_at classes some_ending byte_then piece_then matches some_up_to last_up_to first_up_to
nearest_rows = refl

pub matching_rows : MatchingRows
unfolding put put_all tokens_from token_at bracket_at items_from item_at classes some_ending byte_then piece_then matches
matching_rows = refl

pub order_rows : OrderRows
unfolding put put_all tokens_from token_at bracket_at items_from item_at classes some_ending byte_then piece_then matches
order_rows = refl

pub mark_rows : MarkRows
mark_rows = refl

pub word_rows : WordRows
unfolding tokens_from token_at bracket_at items_from item_at classes some_ending byte_then piece_then matches some_up_to last_up_to first_up_to
word_rows = refl

pub file_rows : FileRows
unfolding numbered pieces trimmed
file_rows = refl

pub head_rows : HeadRows
unfolding tokens_from token_at bracket_at items_from item_at classes some_ending byte_then piece_then matches some_up_to last_up_to first_up_to
head_rows = (refl, refl)

pub gathered_rows : GatheredRows
gathered_rows = refl

pub place_rows : PlaceRows
unfolding numbered pieces trimmed
place_rows = refl

pub replaced_rows : ReplacedRows
unfolding replacements
replaced_rows = refl

pub replaced_file_rows : ReplacedFileRows
unfolding position_cmp assignment_cmp once replacements ascending pieces trimmed numbered behind first_section sections_from token_at tokens_from some_ending byte_then piece_then matches put first_of
replaced_file_rows = refl

pub repeated_rows : RepeatedRows
unfolding position_cmp assignment_cmp once replacements ascending pieces trimmed numbered behind first_section sections_from token_at tokens_from some_ending byte_then piece_then matches put first_of
repeated_rows = refl

pub masked_rows : MaskedRows
unfolding put ascending
masked_rows = refl

pub replaced_text_rows : ReplacedTextRows
unfolding digits visible_after is_utf8 chars encode_utf8
replaced_text_rows = refl
