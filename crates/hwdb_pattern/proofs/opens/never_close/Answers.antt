use Rattle.std.proofs.Common.{sym, ◌∙◌}
use Rattle.hwdb_pattern.proofs.OpenLemmas.{never_by_table}
use Rattle.hwdb_pattern.proofs.opens.never_close.Goals as goal

pub returns-then-text-ne93 : goal.returns-then-text-ne93
returns-then-text-ne93 c = λ yes.
    never_by_table c.args.text.now c.args.ahead.now 0 c.item.result c.requires.some c.if-text-ne93.true c.requires.ahead c.item.ensures.part c.item.ensures.moves
    (sym c.says.ensures ∙ yes)
