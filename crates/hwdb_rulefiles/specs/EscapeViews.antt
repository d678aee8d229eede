-- What a piece of a text means.
use Rattle.std.specs.Prelude.{List, ℕ, Option, Some, None, ◌≤◌, ◌<◌, ◌≡◌, false}
use Rattle.hwdb_rulefiles.specs.Escapes
use Rattle.hwdb_rulefiles.specs.declared.escapes.Piece.{Piece}

abbrev pub piece_in : Piece → Escapes.Piece
piece_in p = record { code = p.code; wide = p.wide; len = p.len }

abbrev pub piece_view : Option Piece → Option Escapes.Piece
piece_view None = None
piece_view (Some p) = Some (piece_in p)

-- a character that is one, or a byte
pub record IsSmall (p : Piece) : Type 0 where
  pub character : p.code ≤ 1114111
  pub single : p.wide ≡ false → p.code < 256
