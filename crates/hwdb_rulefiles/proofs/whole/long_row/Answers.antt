use Rattle.std.proofs.Common.{◌≡◌, ◌∙◌, sym, map, drop, ◌+◌}
use Rattle.hwdb_rulefiles.specs.RuleText.{long_row}
use Rattle.hwdb_rulefiles.specs.Views.{text_of}
use Rattle.hwdb_rulefiles.proofs.RowLemmas.{next_text, no_text, long_here, long_later, long_none}
use Rattle.hwdb_rulefiles.proofs.whole.long_row.Goals as goal

pub returns-then-row-ge-LINE_SIZE : goal.returns-then-row-ge-LINE_SIZE
returns-then-row-ge-LINE_SIZE c = sym (long_here _ _ _ _ (next_text c.args.rows.now c.loop-index.index _ c.loop-index-test.true) c.if-row-ge-LINE_SIZE.true) ∙ c.loop-index.invariant

pub loop-index-preserved : goal.loop-index-preserved
loop-index-preserved c = sym (long_later _ _ _ _ (next_text c.args.rows.now c.loop-index.index _ c.loop-index-test.true) c.if-row-ge-LINE_SIZE.false) ∙ c.loop-index.invariant

pub returns : goal.returns
returns c = sym (long_none _ _ (no_text c.args.rows.now c.loop-index.index c.loop-index-test.false)) ∙ c.loop-index.invariant
