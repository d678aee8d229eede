-- What an iterator over pieces or lines has still to give.
use Rattle.std.specs.Prelude.{List, ℕ}
use Rattle.hwdb_spec.specs.Lines.{is, pieces}
use Rattle.hwdb_text.specs.declared.pieces.Lines.{Lines}
use Rattle.hwdb_text.specs.declared.pieces.Pieces.{Pieces}

-- the pieces that are left
abbrev pub pieces_left : Pieces → List (List ℕ)
pieces_left p = pieces (is p.cut) p.rest.now

-- the lines that are left
abbrev pub lines_left : Lines → List (List ℕ)
lines_left l = pieces (is 10) l.rest.now
