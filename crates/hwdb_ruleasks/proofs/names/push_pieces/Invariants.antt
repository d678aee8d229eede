use Rattle.std.proofs.Common.{◌≡◌, ◌++◌, map, drop}
use Rattle.std.specs.Prelude.{flat_map}
use Rattle.hwdb_ruleevents.specs.PieceViews.{piece_of}
use Rattle.hwdb_spec_rules.specs.RuleNames.{piece_name}
use Rattle.hwdb_ruleasks.specs.Views.{own_text}
use Rattle.hwdb_ruleasks.proofs.names.push_pieces.Given as goal

abbrev pub invariant-loop-piece : goal.invariant-loop-piece
invariant-loop-piece l =
    map own_text l.names.items ++ flat_map piece_name (map piece_of (drop l.piece-index l.pieces))
    ≡ map own_text l.initial.names.items ++ flat_map piece_name (map piece_of l.pieces)
