use Rattle.hwdb_query.proofs.CollectionLemmas.{last_none, last_more}
use Rattle.hwdb_query.proofs.last_hits.LastHitsCollector.law_collects.Goals as goal

pub returns-clause-none : goal.returns-clause-none
returns-clause-none c = last_none

pub returns-clause-more : goal.returns-clause-more
returns-clause-more c = last_more
