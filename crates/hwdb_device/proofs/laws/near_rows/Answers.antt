use Rattle.hwdb_device.proofs.NearRowLemmas.{near_given_rows}
use Rattle.hwdb_device.proofs.laws.near_rows.Goals as goal

pub returns : goal.returns
returns c = near_given_rows
