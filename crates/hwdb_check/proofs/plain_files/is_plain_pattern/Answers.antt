use Rattle.std.proofs.Common.{◌∙◌, ap, sym}
use Rattle.hwdb_spec_commands.specs.Unmatched.{is_unmatched}
use Rattle.hwdb_check.proofs.PlainLemmas.{false_if}
use Rattle.hwdb_check.proofs.plain_files.is_plain_pattern.Goals as goal

pub returns : goal.returns
returns c = λ e. record {
  mark = sym c.begins_with_mark.ensures ∙ c.if-begins_with_mark.false;
  tab = sym c.begins_with_tab.ensures ∙ c.if-begins_with_tab.false;
  bracket = sym c.holds_bracket.ensures ∙ c.if-holds_bracket.false;
  short = sym c.is_too_long.ensures ∙ c.if-is_too_long.false;
  lasting = sym c.is_fragile_line.ensures ∙ c.if-is_fragile_line.false;
  shallow = sym c.may_be_too_deep.ensures ∙ c.if-may_be_too_deep.false;
  judged = ap is_unmatched (sym c.in_ok-said.ensures.judgement) ∙ sym c.is_unmatched.ensures ∙ c.if-is_unmatched.false;
  likely = ap is_unmatched (sym c.in_ok-said.ensures.likelihood) ∙ sym c.is_unmatched-2.ensures ∙ false_if _ e;
}
