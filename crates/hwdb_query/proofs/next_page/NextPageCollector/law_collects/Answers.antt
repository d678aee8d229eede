use Rattle.hwdb_query.proofs.CollectionLemmas.{page_none, page_more}
use Rattle.hwdb_query.proofs.next_page.NextPageCollector.law_collects.Goals as goal

pub returns-clause-none : goal.returns-clause-none
returns-clause-none c = page_none

pub returns-clause-more : goal.returns-clause-more
returns-clause-more c = page_more
