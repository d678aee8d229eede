use Rattle.std.proofs.Common.{◌≡◌, ◌∙◌, sym, ap, arith}
use Rattle.hwdb_rulefiles.specs.PairViews.{attribute_of}
use Rattle.hwdb_rulefiles.specs.LineViews.{taking_of}
use Rattle.hwdb_rulefiles.proofs.LineLemmas.{no_more, stops, goes}
use Rattle.hwdb_rulefiles.proofs.lines.read_pairs.Goals as goal

pub returns : goal.returns
returns c = sym (no_more c.loop-most.most (taking_of c.loop-most.taking) c.args.line c.args.text.now c.loop-most.rest.now (omega arith)) ∙ c.loop-most.invariant

pub returns-in-None : goal.returns-in-None
returns-in-None c =
    stops c.loop-most.most (taking_of c.loop-most.taking) _ c.args.line c.args.text.now c.loop-most.rest.now c.loop-most-test.true c.in_ok-next.ensures.taking
    (ap attribute_of (sym c.in-None.is) ∙ c.in_ok-next.ensures.rest)
    ∙ c.loop-most.invariant

pub loop-most-preserved : goal.loop-most-preserved
loop-most-preserved c =
    goes c.loop-most.most (taking_of c.loop-most.taking) _ c.args.line c.args.text.now c.loop-most.rest.now _ c.loop-most-test.true c.in_ok-next.ensures.taking
    (ap attribute_of (sym c.in-Some.is) ∙ c.in_ok-next.ensures.rest)
    ∙ c.loop-most.invariant
