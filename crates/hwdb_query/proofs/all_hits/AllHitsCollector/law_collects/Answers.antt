use Rattle.hwdb_query.proofs.AllHitsLemmas.{all_none, all_more}
use Rattle.hwdb_query.proofs.all_hits.AllHitsCollector.law_collects.Goals as goal

pub returns-clause-none : goal.returns-clause-none
returns-clause-none c = all_none

pub returns-clause-more : goal.returns-clause-more
returns-clause-more c = all_more
