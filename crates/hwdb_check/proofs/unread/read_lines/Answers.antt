use Rattle.hwdb_check.specs.Internal.{is_read_there}
use Rattle.hwdb_check.proofs.SoughtLemmas.{lines_step}
use Rattle.hwdb_check.proofs.unread.read_lines.Goals as goal

pub loop-given-preserved : goal.loop-given-preserved
loop-given-preserved c = record {
  lines = lines_step (is_read_there c.args.elsewhere.now) c.args.all.now c.loop-given.given-index _ _ _ c.loop-given-test.true c.in_ok-put_read.ensures.lines c.loop-given.invariant.lines;
  last = c.in_ok-put_read.ensures.is;
}
