use Rattle.std.proofs.Common.{◌∙◌, ap, sym, map, List}
use Rattle.hwdb_rulefiles.specs.LineViews.{outcome_of}
use Rattle.hwdb_rulefiles.specs.RuleJumps.{marks}
use Rattle.hwdb_rulefiles.proofs.JumpLemmas.{resolves}
use Rattle.hwdb_rulefiles.proofs.jumps.resolved.Goals as goal

pub returns : goal.returns
returns c =
    c.in_ok-all.ensures
    ∙ resolves _ (map outcome_of c.args.outcomes.items)
    (c.deref-2.ensures.value ∙ c.reverse.ensures.items ∙ c.in_ok-marks.ensures ∙ ap (λ l. marks (map outcome_of l)) c.deref.ensures.value)
