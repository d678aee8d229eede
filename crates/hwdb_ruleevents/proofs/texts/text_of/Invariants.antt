use Rattle.std.proofs.Common.{◌≡◌, map, drop}
use Rattle.hwdb_rulefiles.specs.Escapes.{onto}
use Rattle.hwdb_ruleevents.specs.ChangeViews.{held_of}
use Rattle.hwdb_ruleevents.specs.EffectViews.{knowledge_of}
use Rattle.hwdb_ruleevents.specs.PieceViews.{piece_of}
use Rattle.hwdb_ruleevents.specs.Texts.{meaning_told, text_of}
use Rattle.hwdb_ruleevents.proofs.texts.text_of.Given as goal

abbrev pub invariant-loop-piece : goal.invariant-loop-piece
invariant-loop-piece g l =
    onto l.out.items (text_of (meaning_told (knowledge_of (g.C.Commands.known l.knowledge.commands.now) l.knowledge.facts) (map held_of l.changes)) (map piece_of (drop l.piece-index l.pieces)))
    ≡ text_of (meaning_told (knowledge_of (g.C.Commands.known l.knowledge.commands.now) l.knowledge.facts) (map held_of l.changes)) (map piece_of l.pieces)
