use Rattle.hwdb_pattern.specs.Internal.Met.{lengths_of}
use Rattle.hwdb_pattern.proofs.FrontLemmas.{all_after, along_one}
use Rattle.hwdb_pattern.proofs.PathLemmas.{after_within}
use Rattle.hwdb_pattern.proofs.fronts.met_by.Goals as goal

pub loop-text-preserved : goal.loop-text-preserved
loop-text-preserved c = record {
  are = along_one c.args.tokens.now c.some_text.result.now c.loop-text.text-index _ c.args.device.now (lengths_of c.loop-text.met) (lengths_of c.in_ok-met.met) c.loop-text-test.true
      c.some_text.ensures.same c.in_ok-met.ensures c.loop-text.invariant.are;
  within = after_within c.args.device.now (lengths_of c.loop-text.met) (lengths_of c.in_ok-met.met) c.some_text.result.now c.in_ok-met.ensures;
}
