use Rattle.std.proofs.Common.{◌∙◌, ap, sym, arith, length, nat_lt}
use Rattle.std.proofs.lemmas.List.{take_rest, length-drop}
use Rattle.hwdb_pattern.proofs.RangeLemmas.{none_is, range_found, some_is, token_end, token_here, token_step}
use Rattle.hwdb_pattern.proofs.unusual.range_place.Goals as goal

pub overflow_add-result : goal.overflow_add-result
overflow_add-result c = omega (arith, c.in-Some.ensures.within, ap length (take_rest c.args.pattern.now c.loop-at.at), length-drop c.loop-at.at c.args.pattern.now)

pub returns-in-Some-clause-place : goal.returns-in-Some-clause-place
returns-in-Some-clause-place c =
    let found = some_is _ _ _ (sym c.in-Some.is ∙ c.range_in_token.ensures.range) in
    token_here c.args.pattern.now _ c.loop-at.at c.in-Some.range (take_rest c.args.pattern.now c.loop-at.at) c.loop-at-test.true found.0 found.1
    ∙ c.loop-at.invariant.same

pub returns-in-Some-clause-found : goal.returns-in-Some-clause-found
returns-in-Some-clause-found c =
    let found = some_is _ _ _ (sym c.in-Some.is ∙ c.range_in_token.ensures.range) in
    ap (λ n. nat_lt n (length c.args.pattern.now))
    (token_here c.args.pattern.now _ c.loop-at.at c.in-Some.range (take_rest c.args.pattern.now c.loop-at.at) c.loop-at-test.true found.0 found.1
    ∙ c.loop-at.invariant.same)
    ∙ range_found c.args.pattern.now

pub loop-at-preserved : goal.loop-at-preserved
loop-at-preserved c = record {
  at_in = omega (arith, c.token_size-size.ensures.within, ap length (take_rest c.args.pattern.now c.loop-at.at), length-drop c.loop-at.at c.args.pattern.now);
  same =
      token_step c.args.pattern.now _ c.loop-at.at c.token_size-size.result (take_rest c.args.pattern.now c.loop-at.at) c.loop-at-test.true c.token_size-size.ensures.size
      (none_is _ _ (sym c.in_default.is ∙ c.range_in_token.ensures.range))
      ∙ c.loop-at.invariant.same;
}

pub returns-clause-place : goal.returns-clause-place
returns-clause-place c = token_end c.args.pattern.now c.loop-at.at c.loop-at-test.false ∙ c.loop-at.invariant.same

pub returns-clause-found : goal.returns-clause-found
returns-clause-found c =
    ap (λ n. nat_lt n (length c.args.pattern.now)) (token_end c.args.pattern.now c.loop-at.at c.loop-at-test.false ∙ c.loop-at.invariant.same)
    ∙ range_found c.args.pattern.now
