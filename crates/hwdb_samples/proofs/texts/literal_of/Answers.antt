use Rattle.std.proofs.Common.{sym}
use Rattle.hwdb_samples.proofs.TextLemmas.{mark_literal, no_literal, none_there, own_literal, some_there, star_literal}
use Rattle.hwdb_samples.proofs.texts.literal_of.Goals as goal

pub returns-then-is_empty : goal.returns-then-is_empty
returns-then-is_empty c = sym (no_literal c.args.text.now (none_there c.args.text.now c.if-is_empty.ensures))

pub returns-then-text-eq42 : goal.returns-then-text-eq42
returns-then-text-eq42 c = sym (star_literal c.args.text.now (some_there c.args.text.now c.if-is_empty.ensures) c.if-text-eq42.true)

pub returns-then-text-eq63 : goal.returns-then-text-eq63
returns-then-text-eq63 c = sym (mark_literal c.args.text.now (some_there c.args.text.now c.if-is_empty.ensures) c.if-text-eq63.true)

pub returns : goal.returns
returns c = sym (own_literal c.args.text.now (some_there c.args.text.now c.if-is_empty.ensures) c.if-text-eq42.false c.if-text-eq63.false c.if-text-eq91.false)
