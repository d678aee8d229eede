use Rattle.hwdb_samples.proofs.LawLemmas.{added_are_settled, nothing_is_same, removed_are_settled, samples_show}
use Rattle.hwdb_samples.proofs.laws.law_found.Goals as goal

pub returns : goal.returns
returns c = record {
  shown = samples_show c.matches_is_tested.ensures;
  complete = nothing_is_same c.matches_is_tested.ensures;
  removed = removed_are_settled c.matches_is_tested.ensures;
  added = added_are_settled c.matches_is_tested.ensures;
}
