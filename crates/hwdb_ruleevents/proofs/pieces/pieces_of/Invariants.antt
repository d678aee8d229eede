use Rattle.std.proofs.Common.{◌≡◌, ◌++◌, map}
use Rattle.hwdb_ruleevents.specs.Pieces.{first_pieces, pieces}
use Rattle.hwdb_ruleevents.specs.PieceViews.{piece_of}
use Rattle.hwdb_ruleevents.proofs.pieces.pieces_of.Given as goal

abbrev pub invariant-loop-most : goal.invariant-loop-most
invariant-loop-most l = map piece_of l.all.items ++ first_pieces l.most l.rest ≡ pieces l.value

abbrev pub decreases-loop-most : goal.decreases-loop-most
decreases-loop-most l = l.most
