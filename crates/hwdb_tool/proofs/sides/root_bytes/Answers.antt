use Rattle.std.proofs.Common.{ap, map, ◌∙◌, true, false, Ok, Err}
use Rattle.hwdb_text.specs.Views.{choice_of, bytes_in, choice_in}
use Rattle.hwdb_plan.specs.Lemmas.Sides.{memory_reached}
use Rattle.hwdb_plan.specs.Lemmas.Update.{handed_on}
use Rattle.hwdb_plan.specs.Sides.{made_of, taken_from}
use Rattle.hwdb_tool.proofs.SidePlanLemmas.{are_taken, items, side_made}
use Rattle.hwdb_tool.proofs.sides.root_bytes.Goals as goal

pub returns : goal.returns
returns c = record {
  told = λ w root contents s.
      let chosen = map choice_of c.args.selection.now.chosen.items in
      let texts = map (λ t. t.items) c.args.selection.now.texts.items in
      let files = c.deref-3.result.now in
      let are = are_taken root contents _ chosen texts s files (ap (map choice_in) c.deref-3.ensures.value ∙ c.in_ok-files.ensures.choices ∙ ap (map choice_of) c.deref.ensures.value)
      (ap (map bytes_in) c.deref-3.ensures.value ∙ c.in_ok-files.ensures.bytes ∙ ap (map (λ t. t.items)) c.deref-2.ensures.value) in
      side_made w (taken_from true chosen texts) (taken_from false chosen texts) (Ok c.in_ok-made.made.database) (c.in_ok-made.ensures.made (taken_from true chosen texts) (taken_from false chosen texts) are) tt;
}

pub returns-in_err-files : goal.returns-in_err-files
returns-in_err-files c = record {
  told = λ w root contents s.
      let chosen = map choice_of c.args.selection.now.chosen.items in
      let texts = map (λ t. t.items) c.args.selection.now.texts.items in
      memory_reached w items (made_of (taken_from true chosen texts) (taken_from false chosen texts)) c.from_residual.result c.from_residual.ensures.1;
}

pub returns-in_err-made : goal.returns-in_err-made
returns-in_err-made c = record {
  told = λ w root contents s.
      let chosen = map choice_of c.args.selection.now.chosen.items in
      let texts = map (λ t. t.items) c.args.selection.now.texts.items in
      let files = c.deref-3.result.now in
      let r = c.in_err-made.field-0.0 in
      let are = are_taken root contents _ chosen texts s files (ap (map choice_in) c.deref-3.ensures.value ∙ c.in_ok-files.ensures.choices ∙ ap (map choice_of) c.deref.ensures.value)
      (ap (map bytes_in) c.deref-3.ensures.value ∙ c.in_ok-files.ensures.bytes ∙ ap (map (λ t. t.items)) c.deref-2.ensures.value) in
      handed_on items w (made_of (taken_from true chosen texts) (taken_from false chosen texts)) r c.from_residual-in_err-made.result
      (side_made w (taken_from true chosen texts) (taken_from false chosen texts) (Err r) tt (c.in_err-made.ensures.refused (taken_from true chosen texts) (taken_from false chosen texts) are))
      c.from_residual-in_err-made.ensures.1;
}
