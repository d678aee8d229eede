use Rattle.std.proofs.Common.{ap}
use Rattle.hwdb_query.specs.Internal.Hits.{after_position}
use Rattle.hwdb_query.proofs.OrderLemmas.{after_none, after_less, after_other}
use Rattle.hwdb_query.proofs.next_page.is_past.Goals as goal

pub returns-in-None : goal.returns-in-None
returns-in-None c = after_none _ _ (ap after_position c.in-None.is)

pub returns-in-Less : goal.returns-in-Less
returns-in-Less c = after_less _ _ _ (ap after_position c.in-Some.is) c.in-Less.ensures

pub returns-in_default : goal.returns-in_default
returns-in_default c = after_other _ _ _ _ (ap after_position c.in-Some.is) c.order.ensures c.in_default.not-Less
