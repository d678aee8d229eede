use Rattle.std.proofs.Common.{arith, sym}
use Rattle.hwdb_pattern.proofs.RangeLemmas.{item_short, item_other, item_closed, item_range}
use Rattle.hwdb_pattern.proofs.unusual.begins_reversed.Goals as goal

pub returns-then-text-lt3 : goal.returns-then-text-lt3
returns-then-text-lt3 c = sym (item_short c.args.text.now c.if-text-lt3.true)

pub returns-then-text-ne45 : goal.returns-then-text-ne45
returns-then-text-ne45 c = sym (item_other c.args.text.now c.if-text-ne45.true)

pub returns-then-text-eq93 : goal.returns-then-text-eq93
returns-then-text-eq93 c = sym (item_closed c.args.text.now (omega arith) c.if-text-eq93.true)

pub returns : goal.returns
returns c = sym (item_range c.args.text.now (omega arith) c.if-text-ne45.false c.if-text-eq93.false)
