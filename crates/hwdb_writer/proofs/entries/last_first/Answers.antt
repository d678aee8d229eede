use Rattle.std.proofs.Common.{◌∙◌, ap, reverse}
use Rattle.std.proofs.lemmas.List.{take_all}
use Rattle.hwdb_writer.proofs.entries.last_first.Goals as goal

pub returns : goal.returns
returns c = c.reverse.ensures.items ∙ ap reverse (c.loop-entry.invariant ∙ take_all c.loop-entry.entry-index c.args.all.now c.loop-entry-test.false)
