use Rattle.hwdb_properties.proofs.ApartLemmas.{apart}
use Rattle.hwdb_properties.proofs.rows.begin_apart.Goals as goal

pub returns : goal.returns
returns c = λ e. apart c.args.row.now c.args.name.now c.if-is_empty.ensures c.if-is_empty-2.ensures c.if-row-name.false
