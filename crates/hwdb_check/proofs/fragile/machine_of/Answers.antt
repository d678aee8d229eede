use Rattle.std.proofs.Common.{◌∙◌, List, ap, arith, codes, drop, length, nat_eq, sym, ℕ}
use Rattle.std.specs.List.{starts_with}
use Rattle.std.proofs.lemmas.List.{length-drop}
use Rattle.hwdb_check.proofs.FragileLemmas.{after, at_the_end, without}
use Rattle.hwdb_check.proofs.fragile.machine_of.Goals as goal

pub returns-then-starts_with-clause-machine : goal.returns-then-starts_with-clause-machine
returns-then-starts_with-clause-machine c =
    c.rest_of.ensures ∙ ap (drop 4) c.rest_of-rest.ensures
    ∙ after c.args.pattern.now c.loop-at.at
    (ap (λ (t : List ℕ). starts_with nat_eq t (codes "dmi:")) (sym c.rest_of-rest.ensures) ∙ sym c.starts_with.ensures.value ∙ c.if-starts_with.true)
    c.loop-at.invariant.same

pub returns-then-starts_with-clause-within : goal.returns-then-starts_with-clause-within
returns-then-starts_with-clause-within c =
    omega (arith, ap length c.rest_of.ensures, length-drop 4 c.rest_of-rest.result.now, ap length c.rest_of-rest.ensures, length-drop c.loop-at.at c.args.pattern.now)

pub loop-at-preserved : goal.loop-at-preserved
loop-at-preserved c = record {
  at_in = omega (arith, c.loop-at-test.true);
  same =
      without c.args.pattern.now c.loop-at.at (omega (arith, c.loop-at-test.true))
      (ap (λ (t : List ℕ). starts_with nat_eq t (codes "dmi:")) (sym c.rest_of-rest.ensures) ∙ sym c.starts_with.ensures.value ∙ c.if-starts_with.false)
      c.loop-at.invariant.same;
}

pub returns-clause-machine : goal.returns-clause-machine
returns-clause-machine c = at_the_end c.args.pattern.now c.loop-at.at (omega (arith, c.loop-at-test.false)) c.loop-at.invariant.same
