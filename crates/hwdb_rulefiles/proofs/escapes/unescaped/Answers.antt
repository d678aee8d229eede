use Rattle.std.proofs.Common.{◌≡◌, ◌∙◌, sym, ap, List, ℕ, arith, [], Some, None, Option, ◌∷◌}
use Rattle.hwdb_rulefiles.specs.Escapes.{first_pieces, onto, piece_of, Piece}
use Rattle.hwdb_rulefiles.specs.EscapeViews.{piece_view}
use Rattle.hwdb_rulefiles.proofs.EscapeLemmas.{none_left, no_more, onto_none, one_bad, one_piece, split}
use Rattle.hwdb_rulefiles.proofs.escapes.unescaped.Goals as goal

pub returns-then-is_empty : goal.returns-then-is_empty
returns-then-is_empty c =
    sym (onto_none c.loop-most.out.items) ∙ ap (onto c.loop-most.out.items) (sym (none_left c.loop-most.most c.loop-most.rest.now (sym c.if-is_empty.ensures))) ∙ c.loop-most.invariant

pub returns : goal.returns
returns c = sym (onto_none c.loop-most.out.items) ∙ ap (onto c.loop-most.out.items) (sym (no_more c.loop-most.most c.loop-most.rest.now (omega arith))) ∙ c.loop-most.invariant

pub returns-in_default : goal.returns-in_default
returns-in_default c = sym (ap (onto c.loop-most.out.items) (one_bad c.loop-most.most c.loop-most.rest.now _ _ c.loop-most-test.true (split c.loop-most.rest.now (sym c.if-is_empty.ensures)) (sym c.in_default.ensures.value))) ∙ c.loop-most.invariant

pub loop-most-preserved : goal.loop-most-preserved
loop-most-preserved c = one_piece c.loop-most.out.items _ _ c.loop-most.most c.loop-most.rest.now _ _ _ c.loop-most-test.true (split c.loop-most.rest.now (sym c.if-is_empty.ensures)) (sym c.in-Some.ensures.value) c.in_ok-put.ensures c.after-rest.ensures ∙ c.loop-most.invariant
