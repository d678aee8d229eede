use Rattle.std.proofs.Common.{◌∙◌, ◌++◌, ap, sym, map, arith, append-nil, List}
use Rattle.hwdb_rulefiles.specs.RuleTokens.{Token}
use Rattle.hwdb_rulefiles.specs.TokenViews.{token_of}
use Rattle.hwdb_rulefiles.proofs.OrderLemmas.{one_rank, no_rank}
use Rattle.hwdb_rulefiles.proofs.order.in_order.Goals as goal

pub loop-most-preserved : goal.loop-most-preserved
loop-most-preserved c = record {
  sofar =
      one_rank c.loop-most.most c.loop-most.wanted (map token_of c.loop-most.sorted.items) _ (map token_of c.loop-most.rest.items) _ c.loop-most-test.true
      c.in_ok-rest.ensures.sorted c.in_ok-rest.ensures.others
      ∙ c.loop-most.invariant.sofar;
  count = omega arith;
}

pub returns : goal.returns
returns c =
    sym (append-nil (map token_of c.loop-most.sorted.items))
    ∙ ap (λ (l : List Token). map token_of c.loop-most.sorted.items ++ l) (sym (no_rank c.loop-most.most c.loop-most.wanted (map token_of c.loop-most.rest.items) (omega arith)))
    ∙ c.loop-most.invariant.sofar
