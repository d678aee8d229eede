use Rattle.std.proofs.Common.{arith, map, drop}
use Rattle.hwdb_rulefiles.specs.TokenViews.{token_of}
use Rattle.hwdb_rulerun.specs.Views.{sight_of}
use Rattle.hwdb_rulerun.proofs.BackLemmas.{own_none, own_back, dropped, one_back}
use Rattle.hwdb_rulerun.proofs.conditions.all_own.Goals as goal

pub loop-at-init : goal.loop-at-init
loop-at-init c = record {
  at_in = omega arith;
  same = own_none (sight_of c.args.sight.now) _ (dropped token_of c.args.tokens.now);
}

pub loop-at-preserved : goal.loop-at-preserved
loop-at-preserved c =
    let e = one_back token_of c.args.tokens.now c.loop-at.at c.index-tokens-at.result c.loop-at-test.true c.loop-at.invariant.at_in c.index-tokens-at.is in
    record {
      at_in = omega arith;
      same =
          own_back (sight_of c.args.sight.now) _ (map token_of (drop c.loop-at.at c.args.tokens.now)) (token_of c.index-tokens-at.result) c.loop-at.all _ e
          c.loop-at.invariant.same c.in_ok-all.ensures;
    }
