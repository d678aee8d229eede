use Rattle.std.proofs.Common.{◌∙◌}
use Rattle.hwdb_samples.proofs.RuleLemmas.{kept_none, kept_some}
use Rattle.hwdb_samples.proofs.changes.is_kept.Goals as goal

pub returns-in-Some : goal.returns-in-Some
returns-in-Some c = λ rules are. c.same_value.ensures ∙ kept_some rules c.args.other.now c.args.rule c.in-Some.value.now are c.in-Some.ensures.value

pub returns-in-None : goal.returns-in-None
returns-in-None c = λ rules are. kept_none rules c.args.other.now c.args.rule are c.in-None.ensures.value
