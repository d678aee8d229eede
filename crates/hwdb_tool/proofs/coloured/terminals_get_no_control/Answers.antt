use Rattle.std.proofs.Common.{◌≡◌, ◌∙◌, ap, false, sym, ⊎_elim}
use Rattle.hwdb_spec_commands.specs.Colours.{without_sequences}
use Rattle.hwdb_spec.specs.Visible.{are_kept, visible}
use Rattle.hwdb_spec_commands.specs.declared.colours.TextKind.TheVariants.{Plain}
use Rattle.hwdb_tool.proofs.coloured.terminals_get_no_control.Goals as goal

pub returns : goal.returns
returns c = record {
  no_control = λ kind text shown bytes is.
      let kept = c.shown_has_no_control.ensures.kept false text bytes in
      let same : without_sequences false shown ≡ visible text =
      ⊎_elim (λ p. ap (without_sequences false) p ∙ c.shown_has_no_control.ensures.coloured kind text bytes)
      (λ p. ap (without_sequences false) (p ∙ sym (c.colours_are_taken_out.ensures.plain (visible text))) ∙ c.shown_has_no_control.ensures.coloured Plain text bytes) is in
      ap (are_kept false) same ∙ kept;
}
