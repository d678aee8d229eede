use Rattle.std.proofs.Common.{◌∙◌, ap, sym, arith, map, drop}
use Rattle.hwdb_rulefiles.specs.LineViews.{outcome_of}
use Rattle.hwdb_rulefiles.specs.RuleJumps.{marks, is_labelled}
use Rattle.hwdb_rulefiles.proofs.JumpLemmas.{marks_none, labels_none, marks_on, dropped, one_back}
use Rattle.hwdb_rulefiles.proofs.jumps.marks.Goals as goal

pub loop-at-init : goal.loop-at-init
loop-at-init c = record {
  at_in = omega arith;
  marks = marks_none c.new-marks.result.items _ c.new-marks.ensures.items (dropped outcome_of c.args.outcomes.now);
  labels = labels_none c.new-labels.result _ c.new-labels.ensures.empty (dropped outcome_of c.args.outcomes.now);
}

pub loop-at-preserved : goal.loop-at-preserved
loop-at-preserved c =
    let later = map outcome_of (drop c.loop-at.at c.args.outcomes.now) in
    let e = one_back outcome_of c.args.outcomes.now c.loop-at.at c.index-outcomes-at.result c.loop-at-test.true c.loop-at.invariant.at_in c.index-outcomes-at.is in
    record {
      at_in = omega arith;
      marks =
          marks_on (outcome_of c.index-outcomes-at.result) later c.loop-at.marks.items _ _ c.loop-at.invariant.marks c.in_ok-push.ensures.items
          (c.is_kept.ensures later c.loop-at.invariant.labels)
          ∙ ap marks (sym e);
      labels = λ name. c.in_ok-learn.ensures later c.loop-at.invariant.labels name ∙ ap (is_labelled name) (sym e);
    }
