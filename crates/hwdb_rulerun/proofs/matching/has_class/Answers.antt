use Rattle.std.proofs.Common.{◌∙◌, arith}
use Rattle.hwdb_rulerun.proofs.MatchLemmas.{class_hit, class_missed}
use Rattle.hwdb_rulerun.proofs.matching.has_class.Goals as goal

pub returns-then-begins_class : goal.returns-then-begins_class
returns-then-begins_class c =
    class_hit c.args.text.now c.loop-at.at c.begins_class.result c.loop-at-test.true c.begins_class.ensures c.if-begins_class.true ∙ c.loop-at.invariant.same

pub loop-at-preserved : goal.loop-at-preserved
loop-at-preserved c = record {
  at_in = omega arith;
  same =
      class_missed c.args.text.now c.loop-at.at c.begins_class.result c.loop-at-test.true c.begins_class.ensures c.if-begins_class.false
      ∙ c.loop-at.invariant.same;
}
