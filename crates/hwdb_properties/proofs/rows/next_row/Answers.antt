use Rattle.hwdb_properties.proofs.SkipLemmas.{found_next, no_next}
use Rattle.hwdb_properties.proofs.rows.next_row.Goals as goal

pub returns-in-Some : goal.returns-in-Some
returns-in-Some c = found_next c.args.table.now c.args.first c.in-Some.at c.in-Some.ensures

pub returns-in-None : goal.returns-in-None
returns-in-None c = no_next c.args.table.now c.args.first c.in-None.ensures
