use Rattle.std.proofs.Common.{arith}
use Rattle.hwdb_pattern.proofs.SearchLemmas.{plain_more}
use Rattle.hwdb_pattern.proofs.search.plain_size.Goals as goal

pub loop-at-preserved : goal.loop-at-preserved
loop-at-preserved c = record {
  at_in = omega arith;
  plain = plain_more c.args.pattern.now c.loop-at.at c.loop-at.invariant.plain (c.is_plain.ensures c.if-is_plain.true);
}
