use Rattle.hwdb_scan.proofs.PieceLemmas.{in_pieces}
use Rattle.hwdb_scan.proofs.laws.law_in_pieces.Goals as goal

pub returns : goal.returns
returns c = record { pieces = in_pieces }
