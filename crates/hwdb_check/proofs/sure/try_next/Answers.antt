use Rattle.std.proofs.Common.{◌∙◌, List, ap, sym}
use Rattle.hwdb_spec.specs.Lemmas.Orders.{same_text}
use Rattle.hwdb_spec_commands.specs.Patches.{text_of}
use Rattle.hwdb_check.specs.Patching.{edits_of}
use Rattle.hwdb_check.specs.Places.{told_at}
use Rattle.hwdb_check.specs.declared.edits.Edit.{Edit}
use Rattle.hwdb_check.proofs.sure.try_next.Goals as goal

pub returns-then-same-clause-trial : goal.returns-then-same-clause-trial
returns-then-same-clause-trial c =
    let p = c.args.place.now in
    let text = c.in_ok-text.ensures ∙ ap (λ (es : List Edit). text_of p.ended (edits_of es)) c.deref.ensures.value in
    let one = sym c.deref-2.ensures.value ∙ same_text _ _ (sym c.same.ensures ∙ c.if-same.true) ∙ c.deref-3.ensures.value in
    record {
      text = text;
      found = c.requires.found ∙ ap (told_at p) (sym c.requires.text ∙ sym one ∙ text);
    }
