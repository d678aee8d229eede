use Rattle.std.proofs.Common.{◌≡◌, length}
use Rattle.hwdb_sysfs.specs.Tables.{row_at}
use Rattle.hwdb_sysfs.proofs.table.Table.row.Given as goal

abbrev pub invariant-rows : goal.invariant-rows
invariant-rows l = row_at l.left l.path ≡ row_at l.self.rows.items l.path

abbrev pub decreases-rows : goal.decreases-rows
decreases-rows l = length l.left
