use Rattle.std.proofs.Common.{sym, ◌∙◌, arith, ◌≡◌, ℕ, subst, take}
use Rattle.hwdb_spec.specs.Lines.{trimmed}
use Rattle.hwdb_text.proofs.ByteLemmas.{trim_back, trim_here, trim_none}
use Rattle.hwdb_text.proofs.line.trim.Goals as goal
use Rattle.hwdb_text.proofs.line.trim.Goals.{then-loop-end-test+else-is_blank, else-loop-end-test}

pub loop-end-preserved : goal.loop-end-preserved
loop-end-preserved c = record {
  end_in = omega arith;
  same = trim_back c.args.text.now c.loop-end.end c.loop-end-test.true c.loop-end.invariant.end_in (sym c.is_blank.ensures ∙ c.if-is_blank.true) ∙ c.loop-end.invariant.same;
}

pub returns : goal.returns
returns c =
    elim c.loop-end-test.branch [
      | then-loop-end-test+else-is_blank w ↦ sym (trim_here c.args.text.now c.loop-end.end w.loop-end-test.true c.loop-end.invariant.end_in (sym w.is_blank.ensures ∙ w.if-is_blank.false)) ∙ c.loop-end.invariant.same
      | else-loop-end-test w ↦
          (let P : ℕ → Type 0 = λ n. take n c.args.text.now ≡ trimmed (take n c.args.text.now) in
          let z : 0 ≡ c.loop-end.end = omega arith in
          subst P z (sym (trim_none c.args.text.now))) ∙ c.loop-end.invariant.same
    ]
