use Rattle.std.proofs.Common.{◌≡◌, ◌∙◌, sym, ap, map, ◌++◌, List, ℕ, arith, append-nil, ◌∷◌, [], refl, take}
use Rattle.hwdb_rulefiles.specs.RuleText.{first_rows}
use Rattle.hwdb_rulefiles.specs.Views.{text_of}
use Rattle.hwdb_rulefiles.proofs.RowLemmas.{none_left, no_more, one_row}
use Rattle.hwdb_rulefiles.proofs.rows.rows_of.Goals as goal

pub returns-then-is_empty : goal.returns-then-is_empty
returns-then-is_empty c =
    sym (append-nil (map text_of c.loop-most.rows.items))
    ∙ ap (λ (l : List (List ℕ)). map text_of c.loop-most.rows.items ++ l) (sym (none_left c.loop-most.most c.loop-most.rest.now (sym c.if-is_empty.ensures)))
    ∙ c.loop-most.invariant

pub loop-most-preserved : goal.loop-most-preserved
loop-most-preserved c =
    one_row c.loop-most.rows.items _ _ c.loop-most.most c.loop-most.rest.now _ c.loop-most-test.true (sym c.if-is_empty.ensures) c.in_ok-push.ensures.items
    (ap (λ (n : ℕ). take n c.loop-most.rest.now) c.row_len.ensures.place) c.after_row-rest.ensures
    ∙ c.loop-most.invariant

pub returns : goal.returns
returns c =
    sym (append-nil (map text_of c.loop-most.rows.items))
    ∙ ap (λ (l : List (List ℕ)). map text_of c.loop-most.rows.items ++ l) (sym (none c.loop-most.most c.loop-most.rest.now (omega arith)))
    ∙ c.loop-most.invariant
  where
    none : (n : ℕ) (text : List ℕ) → n ≡ 0 → first_rows n text ≡ []
    none n text e = ap (λ (k : ℕ). first_rows k text) e ∙ no_more text
