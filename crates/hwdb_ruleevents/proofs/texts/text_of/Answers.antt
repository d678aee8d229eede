use Rattle.std.proofs.Common.{◌∙◌, ◌+◌, ap, sym, map, drop, get_or, List}
use Rattle.hwdb_rulefiles.specs.Escapes.{onto}
use Rattle.hwdb_ruleevents.specs.ChangeViews.{held_of}
use Rattle.hwdb_ruleevents.specs.EffectViews.{knowledge_of}
use Rattle.hwdb_ruleevents.specs.Pieces.{Piece}
use Rattle.hwdb_ruleevents.specs.PieceViews.{piece_of}
use Rattle.hwdb_ruleevents.specs.declared.pieces.Piece.TheVariants as Kinds
use Rattle.hwdb_ruleevents.specs.Texts.{meaning_told, text_of}
use Rattle.hwdb_ruleevents.proofs.TellLemmas.{from_there}
use Rattle.hwdb_ruleevents.proofs.TextLemmas.{one_piece}
use Rattle.hwdb_ruleevents.proofs.texts.text_of.Goals as goal

pub loop-piece-preserved : goal.loop-piece-preserved
loop-piece-preserved g c =
    one_piece (meaning_told (knowledge_of (g.C.Commands.known c.args.knowledge.now.commands.now) c.args.knowledge.now.facts) (map held_of c.args.changes.now)) c.in_ok-push_piece.field-0 c.loop-piece.out.items
    c.push_piece.new.out.items (piece_of (get_or c.args.pieces.now c.loop-piece.piece-index (Kinds.Byte 0))) (map piece_of (drop (c.loop-piece.piece-index + 1) c.args.pieces.now)) c.if-not-branch.false c.in_ok-push_piece.ensures
    ∙ ap (λ (ps : List Piece). onto c.loop-piece.out.items (text_of (meaning_told (knowledge_of (g.C.Commands.known c.args.knowledge.now.commands.now) c.args.knowledge.now.facts) (map held_of c.args.changes.now)) ps))
    (sym (from_there piece_of c.args.pieces.now c.loop-piece.piece-index (Kinds.Byte 0) c.loop-piece-test.true))
    ∙ c.loop-piece.invariant
