use Rattle.std.proofs.Common.{◌∙◌, ◌++◌, ◌∷◌, [], sym, ap, map, List, arith, append-nil}
use Rattle.std.proofs.lemmas.List.{map-append}
use Rattle.hwdb_ruleevents.specs.Pieces.{Piece}
use Rattle.hwdb_ruleevents.specs.PieceViews.{piece_of}
use Rattle.hwdb_ruleevents.proofs.PieceLemmas.{none_left, no_more, one_end, one_piece, split}
use Rattle.hwdb_ruleevents.proofs.pieces.pieces_of.Goals as goal

pub returns-then-is_empty : goal.returns-then-is_empty
returns-then-is_empty c =
    sym (append-nil (map piece_of c.loop-most.all.items))
    ∙ ap (λ (l : List Piece). map piece_of c.loop-most.all.items ++ l) (sym (none_left c.loop-most.most c.loop-most.rest.now (sym c.if-is_empty.ensures)))
    ∙ c.loop-most.invariant

pub returns : goal.returns
returns c =
    sym (append-nil (map piece_of c.loop-most.all.items))
    ∙ ap (λ (l : List Piece). map piece_of c.loop-most.all.items ++ l) (sym (no_more c.loop-most.most c.loop-most.rest.now (omega arith)))
    ∙ c.loop-most.invariant

pub returns-in_default : goal.returns-in_default
returns-in_default c =
    sym (append-nil (map piece_of c.loop-most.all.items))
    ∙ ap (λ (l : List Piece). map piece_of c.loop-most.all.items ++ l)
    (sym (one_end c.loop-most.most c.loop-most.rest.now _ _ c.loop-most-test.true (split c.loop-most.rest.now (sym c.if-is_empty.ensures)) (sym c.in_default.ensures)))
    ∙ c.loop-most.invariant

pub loop-most-preserved : goal.loop-most-preserved
loop-most-preserved c =
    one_piece (map piece_of c.loop-most.all.items) _ _ c.loop-most.most c.loop-most.rest.now _ _ _ c.loop-most-test.true
    (split c.loop-most.rest.now (sym c.if-is_empty.ensures)) (sym c.in-Some.ensures)
    (ap (map piece_of) c.in_ok-push.ensures.items ∙ map-append piece_of c.loop-most.all.items (c.in-Some.head.piece ∷ [])) c.after-rest.ensures
    ∙ c.loop-most.invariant
