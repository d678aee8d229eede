use Rattle.std.proofs.Common.{◌∙◌, inl, inr}
use Rattle.hwdb_properties.proofs.NameLemmas.{same_at_end}
use Rattle.hwdb_properties.proofs.names.same_letters.Goals.{then-loop-at-test+else-at-other, else-loop-at-test}
use Rattle.hwdb_properties.proofs.names.same_letters.Goals as goal

pub returns : goal.returns
returns c =
    let end = same_at_end c.args.one.now c.args.other.now c.loop-at.at c.loop-at.invariant.in_one c.loop-at.invariant.in_other in
    (elim c.loop-at-test.branch [
      | then-loop-at-test+else-at-other w ↦ end (inr w.if-at-other.false)
      | else-loop-at-test w ↦ end (inl w.loop-at-test.false)
    ]) ∙ c.loop-at.invariant.same
