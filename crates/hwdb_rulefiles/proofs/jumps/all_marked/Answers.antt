use Rattle.std.proofs.Common.{◌∙◌, ap, sym, map}
use Rattle.hwdb_rulefiles.specs.LineViews.{outcome_of}
use Rattle.hwdb_rulefiles.specs.RuleJumps.{mark_at}
use Rattle.hwdb_rulefiles.proofs.JumpLemmas.{marked_none, marked_step}
use Rattle.hwdb_rulefiles.proofs.jumps.all_marked.Goals as goal

pub loop-outcome-init : goal.loop-outcome-init
loop-outcome-init c = ap (map outcome_of) c.new-all.ensures.items ∙ sym (marked_none c.args.marks.now)

pub loop-outcome-preserved : goal.loop-outcome-preserved
loop-outcome-preserved c =
    marked_step outcome_of c.args.marks.now c.loop-outcome.all.items _ c.loop-outcome.yielded c.in-Some.outcome _ _ c.loop-outcome.invariant c.in_ok-push.ensures.items
    c.in_ok-marked.ensures (c.mark_at-keeps.ensures ∙ ap (mark_at c.args.marks.now) (c.len.ensures ∙ c.loop-outcome.all.ok.0))
