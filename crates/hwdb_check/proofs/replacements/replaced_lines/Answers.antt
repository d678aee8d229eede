use Rattle.hwdb_check.proofs.AscendLemmas.{ascending}
use Rattle.hwdb_check.proofs.replacements.replaced_lines.Goals as goal

pub returns-then-ascend : goal.returns-then-ascend
returns-then-ascend c = ascending c.args.all.now c.new.result (c.ascend.ensures c.if-ascend.true) c.new.ensures.empty
