use Rattle.std.proofs.Common.{arith, ap, length, ◌∙◌}
use Rattle.std.proofs.lemmas.List.{take_rest, length-drop}
use Rattle.hwdb_spec.specs.Patterns.{bracket_at}
use Rattle.hwdb_pattern.proofs.SearchLemmas.{counts_none, counts_step, counts_end}
use Rattle.hwdb_pattern.proofs.search.bytes_matched.Goals as goal

pub loop-at-init : goal.loop-at-init
loop-at-init c = record { at_in = omega arith; few = omega arith; counts = counts_none c.args.pattern.now }

pub loop-at-preserved : goal.loop-at-preserved
loop-at-preserved c = record {
  at_in = omega (arith, ap length (take_rest c.args.pattern.now c.loop-at.at), length-drop c.loop-at.at c.args.pattern.now);
  few = omega arith;
  counts = counts_step c.args.pattern.now _ c.loop-at.at c.loop-at.count c.single_token-at.result (take_rest c.args.pattern.now c.loop-at.at) c.loop-at-test.true
      c.single_token-at.ensures.part c.if-pattern-at-eq42.false c.loop-at.invariant.counts;
}

pub returns : goal.returns
returns c = counts_end c.args.pattern.now c.loop-at.at c.loop-at.count c.loop-at-test.false c.loop-at.invariant.counts

pub single_token-at-requires-clause-no_bracket : goal.single_token-at-requires-clause-no_bracket
single_token-at-requires-clause-no_bracket c = λ e. ap bracket_at (take_rest c.args.pattern.now c.loop-at.at) ∙ c.may_close-is_bracket.ensures e
