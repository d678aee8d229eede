use Rattle.std.proofs.Common.{◌∙◌, arith, sym}
use Rattle.hwdb_spec.specs.Lemmas.Orders.{same_text}
use Rattle.hwdb_check.proofs.AmongLemmas.{one}
use Rattle.hwdb_check.proofs.among.are_one.Goals as goal

pub returns : goal.returns
returns c = λ e.
    one c.args.one.now c.args.other.now (omega (arith, c.if-one-other.false))
    (sym c.own_source.ensures ∙ same_text _ _ (sym c.same.ensures ∙ c.if-not-same.false) ∙ c.own_source-2.ensures)
    (sym c.as_bytes.ensures.value ∙ same_text _ _ (sym c.same-2.ensures ∙ c.if-not-same-2.false) ∙ c.as_bytes-2.ensures.value)
    (sym c.deref.ensures.value ∙ same_text _ _ (sym c.same-3.ensures ∙ e) ∙ c.deref-2.ensures.value)
