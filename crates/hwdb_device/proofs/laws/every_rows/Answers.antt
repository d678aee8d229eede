use Rattle.hwdb_device.proofs.EveryRowLemmas.{all_rows, once_rows}
use Rattle.hwdb_device.proofs.laws.every_rows.Goals as goal

pub returns : goal.returns
returns c = record { once = once_rows; all = all_rows }
