use Rattle.hwdb_spec.specs.Patterns.{token_at}
use Rattle.hwdb_pattern.proofs.TableLemmas.{no_steps, none_beyond}
use Rattle.hwdb_pattern.proofs.met.table_stepped.Goals as goal

pub returns-else-table-device : goal.returns-else-table-device
returns-else-table-device c =
    let t = token_at c.args.text.now in
    no_steps t c.args.device.now _ _ (none_beyond t c.args.device.now c.args.table.least c.args.table.says.items c.if-table-device.false) c.none.ensures
