-- What the types of pieces mean.
use Rattle.std.specs.Prelude.{Option, Some, None}
use Rattle.hwdb_ruleevents.specs.Pieces
use Rattle.hwdb_ruleevents.specs.declared.pieces.Piece.{Piece}
use Rattle.hwdb_ruleevents.specs.declared.pieces.Piece.TheVariants as Kinds
use Rattle.hwdb_ruleevents.specs.declared.pieces.Word.{Word}
use Rattle.hwdb_ruleevents.specs.declared.pieces.Head.{Head}

abbrev pub piece_of : Piece → Pieces.Piece
piece_of (Kinds.Byte b) = Pieces.Byte b
piece_of (Kinds.Stands variable argument) = Pieces.Stands variable argument.now

abbrev pub word_of : Word → Pieces.Word
word_of w = record { variable = w.variable; len = w.len }

abbrev pub word_view : Option Word → Option Pieces.Word
word_view None = None
word_view (Some w) = Some (word_of w)

abbrev pub head_view : Option Head → Option Pieces.Head
head_view None = None
head_view (Some h) = Some (record { piece = piece_of h.piece; len = h.len })
