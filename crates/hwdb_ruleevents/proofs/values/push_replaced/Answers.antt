use Rattle.std.proofs.Common.{◌∙◌, ◌∷◌, ap, arith, sym}
use Rattle.hwdb_spec_commands.specs.Sysfs.{replaced}
use Rattle.hwdb_ruleevents.proofs.ValueLemmas.{kept_step, many_step, one_step, put_step, written_end}
use Rattle.hwdb_ruleevents.proofs.values.push_replaced.Goals as goal

pub writing-preserved-then-size-gt0 : goal.writing-preserved-then-size-gt0
writing-preserved-then-size-gt0 c =
    many_step _ _ _ _ _ _ c.in_ok-extend_from_slice.ensures.items
    (kept_step c.writing.left.now c.kept_size-size.result _ _ (omega (arith, c.in-Some.ensures.cases.1)) c.kept_size-size.ensures.size c.if-size-gt0.true c.first.ensures c.after-left.ensures)
    c.writing.invariant

pub writing-preserved : goal.writing-preserved
writing-preserved c =
    one_step _ _ _ _ _ _ c.in_ok-push.ensures.items
    (put_step c.writing.left.now c.kept_size-size.result _ _ c.in-Some.ensures.cases.0 c.kept_size-size.ensures.size (omega (arith, c.if-size-gt0.false))
    ∙ ap (λ b. b ∷ replaced 0 c.in-Some.more.now) (sym c.put_for.ensures))
    c.writing.invariant

pub returns : goal.returns
returns c = written_end _ _ _ c.in_default.ensures.cases c.writing.invariant
