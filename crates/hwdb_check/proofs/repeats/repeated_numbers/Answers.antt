use Rattle.std.proofs.Common.{◌∙◌}
use Rattle.hwdb_check.proofs.RepeatLemmas.{found_all, no_line}
use Rattle.hwdb_check.proofs.repeats.repeated_numbers.Goals as goal

pub returns : goal.returns
returns c = found_all c.loop-text.run _ (no_line _ c.loop-text.number c.in-None.ensures.steps.0) ∙ c.loop-text.invariant.found
