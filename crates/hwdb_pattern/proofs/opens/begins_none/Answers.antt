use Rattle.std.proofs.Common.{◌∙◌, arith, sym}
use Rattle.std.proofs.lemmas.List.{take_rest}
use Rattle.hwdb_pattern.proofs.BracketLemmas.{bracket_other, bracket_short}
use Rattle.hwdb_pattern.proofs.OpenLemmas.{open_at_end, open_by_table, open_inverted_by_table}
use Rattle.hwdb_pattern.proofs.opens.begins_none.Goals as goal
use Rattle.hwdb_pattern.proofs.opens.begins_none.Goals.{then-text-ne91-via-then-text-ne91, then-text-ne91-via-else-text-ne91+then-text-lt2}

pub returns-then-text-ne91 : goal.returns-then-text-ne91
returns-then-text-ne91 c = λ _.
    elim c.then-text-ne91.branch [
      | then-text-ne91-via-then-text-ne91 w ↦ bracket_other c.args.text.now w.if-text-ne91.true
      | then-text-ne91-via-else-text-ne91+then-text-lt2 w ↦ bracket_short c.args.text.now w.if-text-lt2.true
    ]

pub returns-then-not-is_inversion : goal.returns-then-not-is_inversion
returns-then-not-is_inversion c = λ yes.
    open_by_table c.args.text.now _ c.args.ahead.now 0 c.item.result (take_rest c.args.text.now 1) (omega arith) c.if-text-ne91.false
    (sym c.is_inversion.ensures ∙ c.if-not-is_inversion.true) c.requires.ahead c.item.ensures.part (sym c.says.ensures ∙ yes)

pub returns-then-text-lt3 : goal.returns-then-text-lt3
returns-then-text-lt3 c = λ _.
    open_at_end c.args.text.now (omega arith) c.if-text-ne91.false (sym c.is_inversion.ensures ∙ c.if-not-is_inversion.false)

pub returns : goal.returns
returns c = λ yes.
    open_inverted_by_table c.args.text.now _ c.args.ahead.now 0 c.item-2.result (take_rest c.args.text.now 2) (omega arith) c.if-text-ne91.false
    (sym c.is_inversion.ensures ∙ c.if-not-is_inversion.false) c.requires.ahead c.item-2.ensures.part (sym c.says-2.ensures ∙ yes)
