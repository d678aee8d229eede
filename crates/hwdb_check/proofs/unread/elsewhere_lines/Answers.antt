use Rattle.hwdb_spec_commands.specs.Surroundings.{is_elsewhere}
use Rattle.hwdb_check.proofs.SoughtLemmas.{lines_step}
use Rattle.hwdb_check.proofs.unread.elsewhere_lines.Goals as goal

pub loop-given-preserved : goal.loop-given-preserved
loop-given-preserved c = record {
  lines = lines_step is_elsewhere c.args.all.now c.loop-given.given-index _ _ _ c.loop-given-test.true c.in_ok-put_elsewhere.ensures.lines c.loop-given.invariant.lines;
  last = c.in_ok-put_elsewhere.ensures.is;
}
