use Rattle.hwdb_system.proofs.FirstLemmas.{one_named}
use Rattle.hwdb_system.proofs.laws.first_long_file_is_named.Goals as goal

pub returns : goal.returns
returns c = one_named
