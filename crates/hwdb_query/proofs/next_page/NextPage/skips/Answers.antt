use Rattle.std.proofs.Common.{ap}
use Rattle.hwdb_query.specs.Internal.Hits.{parts_position, after_position}
use Rattle.hwdb_query.proofs.CollectionLemmas.{skipped_before, skipped_behind}
use Rattle.hwdb_query.proofs.next_page.NextPage.skips.Goals as goal

pub returns-then-is_earlier : goal.returns-then-is_earlier
returns-then-is_earlier c = λ is x of.
    skipped_before c.args.self.now (parts_position c.in-Some.after) x (ap after_position c.in-Some.is) (c.is_earlier.ensures c.if-is_earlier.true x.position (parts_position c.in-Some.after) of c.origin.ensures)

pub returns : goal.returns
returns c = λ is x of. skipped_behind c.args.self.now x (λ up. c.is_full_before.ensures is up x of)
