use Rattle.hwdb_device.proofs.OnlyLemmas.{only_model, only_numbers}
use Rattle.hwdb_device.proofs.laws.pattern_is_of_one.Goals as goal

pub returns : goal.returns
returns c = record { numbers = only_numbers; model = only_model }
