-- The worked rows, computed.
use Rattle.std.proofs.Common.{refl}
use Rattle.hwdb_spec.specs.Patterns.{bracket_at, items_from, item_at, classes, tokens_from, token_at, some_ending, byte_then, piece_then, matches}
use Rattle.hwdb_pattern.specs.Internal.Parts.{class_at}
use Rattle.hwdb_spec.specs.Tree.{closed_from, some_up_to, is_live}
use Rattle.hwdb_pattern.specs.Rows.{TokenRows, BracketRows, MatchRows, StarRows, ClosedRows, LiveRows}

pub token_rows : TokenRows
unfolding tokens_from token_at bracket_at items_from item_at class_at classes
token_rows = refl

pub bracket_rows : BracketRows
unfolding bracket_at items_from item_at class_at classes
bracket_rows = refl

pub match_rows : MatchRows
unfolding matches piece_then byte_then some_ending tokens_from token_at bracket_at items_from item_at class_at classes
match_rows = refl

pub star_rows : StarRows
unfolding matches piece_then byte_then some_ending tokens_from token_at bracket_at items_from item_at class_at classes
star_rows = refl

pub closed_rows : ClosedRows
unfolding closed_from token_at bracket_at items_from item_at class_at classes
closed_rows = refl

pub live_rows : LiveRows
unfolding is_live some_up_to closed_from matches piece_then byte_then some_ending tokens_from token_at bracket_at items_from item_at class_at classes
live_rows = refl
