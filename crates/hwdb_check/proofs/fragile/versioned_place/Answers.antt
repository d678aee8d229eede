use Rattle.std.proofs.Common.{◌∙◌, ◌+◌, Bool, ap, arith, drop, sym}
use Rattle.hwdb_spec.specs.Lines.{begins_with}
use Rattle.hwdb_spec_commands.specs.Fragile.{is_versioned_at, versioned_place}
use Rattle.hwdb_check.proofs.FragileLemmas.{found, further, none_left}
use Rattle.hwdb_check.proofs.fragile.versioned_place.Goals as goal

pub returns-then-is_versioned_at-clause-place : goal.returns-then-is_versioned_at-clause-place
returns-then-is_versioned_at-clause-place c =
    let here = found c.loop-at.begins (drop c.loop-at.at c.args.machine.now)
    (ap (is_versioned_at c.loop-at.begins) (sym c.rest_of-rest.ensures) ∙ sym c.is_versioned_at.ensures ∙ c.if-is_versioned_at.true) in
    omega (arith, here, c.loop-at.invariant.same)

pub loop-at-preserved : goal.loop-at-preserved
loop-at-preserved c = record {
  at_in = omega (arith, c.loop-at-test.true);
  same =
      ap (λ (b : Bool). (c.loop-at.at + 1) + versioned_place b (drop (c.loop-at.at + 1) c.args.machine.now))
      (c.begins_with-begins.ensures ∙ ap (begins_with 58) c.rest_of-rest.ensures)
      ∙ further c.loop-at.begins c.loop-at.at c.args.machine.now _ (omega (arith, c.loop-at-test.true))
      (ap (is_versioned_at c.loop-at.begins) (sym c.rest_of-rest.ensures) ∙ sym c.is_versioned_at.ensures ∙ c.if-is_versioned_at.false)
      c.loop-at.invariant.same;
}

pub returns-clause-place : goal.returns-clause-place
returns-clause-place c = none_left c.loop-at.begins c.loop-at.at c.args.machine.now _ (omega (arith, c.loop-at-test.false)) c.loop-at.invariant.same
