use Rattle.std.proofs.Common.{◌≡◌, ◌∙◌, sym, true, false, length, arith, eq-eqb, eqb-true}
use Rattle.hwdb_pattern.specs.Internal.Met.{lengths_of}
use Rattle.hwdb_pattern.proofs.FrontLemmas.{all_here, along_one, begun, ended_here}
use Rattle.hwdb_pattern.proofs.PathLemmas.{after_within}
use Rattle.hwdb_pattern.proofs.fronts.front_count.Goals as goal

pub loop-text-preserved : goal.loop-text-preserved
loop-text-preserved c = record {
  after = record {
    are = along_one c.args.tokens.now c.some_text.result.now c.loop-text.text-index _ c.args.device.now (lengths_of c.loop-text.met) (lengths_of c.in_ok-met.met) c.loop-text-test.true
        c.some_text.ensures.same c.in_ok-met.ensures c.loop-text.invariant.after.are;
    within = after_within c.args.device.now (lengths_of c.loop-text.met) (lengths_of c.in_ok-met.met) c.some_text.result.now c.in_ok-met.ensures;
  };
  some = λ e. let t : true ≡ false = sym (eq-eqb (length (lengths_of c.in_ok-met.met)) 0 e) ∙ sym c.is_empty.ensures ∙ c.if-is_empty.false in cc;
  count = omega (arith, c.loop-text.invariant.count);
}

pub returns-then-is_empty-clause-longest : goal.returns-then-is_empty-clause-longest
returns-then-is_empty-clause-longest c =
    ended_here c.args.tokens.now c.some_text.result.now c.loop-text.text-index c.loop-text.count _ c.args.device.now (lengths_of c.loop-text.met) (lengths_of c.in_ok-met.met) c.loop-text.invariant.count c.loop-text-test.true
    c.some_text.ensures.same c.in_ok-met.ensures c.loop-text.invariant.after.are c.loop-text.invariant.some (eqb-true (length (lengths_of c.in_ok-met.met)) 0 (sym c.is_empty.ensures ∙ c.if-is_empty.true))

pub returns-clause-longest : goal.returns-clause-longest
returns-clause-longest c =
    all_here c.args.tokens.now c.loop-text.text-index c.loop-text.count c.args.device.now (lengths_of c.loop-text.met) c.loop-text.invariant.count c.loop-text.auto.text-index-end c.loop-text-test.false c.loop-text.invariant.after.are c.loop-text.invariant.some
