use Rattle.hwdb_samples.proofs.FitLemmas.{samples_fit, shortest_is_sample}
use Rattle.hwdb_samples.proofs.laws.law_samples_fit.Goals as goal

pub returns : goal.returns
returns c = record {
  fit = samples_fit c.texts_fit.ensures;
  shortest = shortest_is_sample;
}
