use Rattle.std.proofs.Common.{◌≡◌, ◌∙◌, sym, map, drop, ◌+◌}
use Rattle.hwdb_rulefiles.specs.RuleText.{steps}
use Rattle.hwdb_rulefiles.specs.Views.{text_of}
use Rattle.hwdb_rulefiles.proofs.RowLemmas.{next_text, no_text, steps_on, steps_none}
use Rattle.hwdb_rulefiles.proofs.whole.whole_lines.Goals as goal

pub loop-index-preserved : goal.loop-index-preserved
loop-index-preserved c = sym (steps_on _ _ _ _ _ _ (next_text c.args.rows.now c.loop-index.index _ c.loop-index-test.true) c.in_ok-row.ensures) ∙ c.loop-index.invariant

pub returns : goal.returns
returns c = sym (steps_none _ _ _ (no_text c.args.rows.now c.loop-index.index c.loop-index-test.false)) ∙ c.loop-index.invariant
