use Rattle.std.proofs.Common.{rules, arith, ◌∙◌}
use Rattle.std.proofs.lemmas.Grind.{common_steps}
use Rattle.std.proofs.lemmas.List.{take_rest}
use Rattle.hwdb_io.proofs.TransferLemmas.{written_more}
use Rattle.hwdb_io.proofs.transfer.write_text.Goals as goal

pub loop-written-preserved : goal.loop-written-preserved
loop-written-preserved g c = record {
  within = grind (arith, common_steps);
  taken = written_more _ _ _ _ _ _ _ (search (rules, take_rest)) c.loop-written.invariant.taken c.in_ok-written.ensures.bytes;
  same = c.in_ok-written.ensures.cause ∙ c.loop-written.invariant.same;
}
