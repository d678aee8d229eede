use Rattle.std.proofs.Common.{arith, ap, length, ◌∙◌}
use Rattle.std.proofs.lemmas.List.{take_rest, length-drop}
use Rattle.hwdb_pattern.proofs.SearchLemmas.{run_step, run_refused, reaches_short, not_star_at}
use Rattle.hwdb_spec.specs.Patterns.{bracket_at}
use Rattle.hwdb_pattern.proofs.search.run.Goals as goal

pub returns-then-met-device-clause-refused : goal.returns-then-met-device-clause-refused
returns-then-met-device-clause-refused c =
    reaches_short _ _ c.loop-at.at c.loop-at.met c.loop-at-test.true (omega arith)
    (not_star_at c.args.pattern.now c.loop-at.at c.if-pattern-at-ne42.true) c.loop-at.invariant.reached

pub returns-then-not-next-clause-refused : goal.returns-then-not-next-clause-refused
returns-then-not-next-clause-refused c =
    run_refused _ _ _ c.loop-at.at c.loop-at.met c.single_token-next.result (take_rest c.args.pattern.now c.loop-at.at)
    c.loop-at-test.true (omega arith)
    c.single_token-next.ensures.part c.if-pattern-at-ne42.true c.if-not-next.true c.loop-at.invariant.reached

pub loop-at-preserved : goal.loop-at-preserved
loop-at-preserved c = record {
  at_in = omega (arith, ap length (take_rest c.args.pattern.now c.loop-at.at), length-drop c.loop-at.at c.args.pattern.now);
  met_in = omega arith;
  reached = run_step _ _ _ c.loop-at.at c.loop-at.met c.single_token-next.result (take_rest c.args.pattern.now c.loop-at.at)
      c.loop-at-test.true (omega arith)
      c.single_token-next.ensures.part c.if-pattern-at-ne42.true c.if-not-next.false c.loop-at.invariant.reached;
}

pub single_token-next-requires-clause-no_bracket : goal.single_token-next-requires-clause-no_bracket
single_token-next-requires-clause-no_bracket c = λ e. ap bracket_at (take_rest c.args.pattern.now c.loop-at.at) ∙ c.may_close-is_bracket.ensures e
