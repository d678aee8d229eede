use Rattle.std.proofs.Common.{◌∙◌, sym}
use Rattle.hwdb_ruleevents.proofs.TextLemmas.{all_last}
use Rattle.hwdb_ruleevents.proofs.texts.last_digits.Goals as goal

pub returns-then-all_digits : goal.returns-then-all_digits
returns-then-all_digits c = all_last c.loop-rest.rest.now (sym c.all_digits.ensures ∙ c.if-all_digits.true) ∙ c.loop-rest.invariant
