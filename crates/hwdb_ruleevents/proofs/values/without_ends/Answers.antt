use Rattle.std.proofs.Common.{sym, ◌∙◌, arith, ◌≡◌, ℕ, subst, take}
use Rattle.hwdb_spec_commands.specs.Sysfs.{cut_back, is_white}
use Rattle.hwdb_ruleevents.proofs.ValueLemmas.{cut_more, cut_here, cut_none}
use Rattle.hwdb_ruleevents.proofs.values.without_ends.Goals as goal
use Rattle.hwdb_ruleevents.proofs.values.without_ends.Goals.{then-loop-end-test+else-is_white, else-loop-end-test}

pub loop-end-preserved : goal.loop-end-preserved
loop-end-preserved c = record {
  end_in = omega arith;
  same = cut_more is_white c.args.value.now c.loop-end.end c.loop-end-test.true c.loop-end.invariant.end_in (sym c.is_white.ensures ∙ c.if-is_white.true) ∙ c.loop-end.invariant.same;
}

pub returns : goal.returns
returns c =
    elim c.loop-end-test.branch [
      | then-loop-end-test+else-is_white w ↦ sym (cut_here is_white c.args.value.now c.loop-end.end w.loop-end-test.true c.loop-end.invariant.end_in (sym w.is_white.ensures ∙ w.if-is_white.false)) ∙ c.loop-end.invariant.same
      | else-loop-end-test w ↦
          (let P : ℕ → Type 0 = λ n. take n c.args.value.now ≡ cut_back is_white (take n c.args.value.now) in
          let z : 0 ≡ c.loop-end.end = omega arith in
          subst P z (sym (cut_none is_white c.args.value.now))) ∙ c.loop-end.invariant.same
    ]
