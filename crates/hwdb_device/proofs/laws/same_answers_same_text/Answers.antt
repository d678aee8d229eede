use Rattle.std.proofs.Common.{List, ap}
use Rattle.hwdb_spec_commands.specs.DeviceTexts.{found_form}
use Rattle.hwdb_spec_commands.specs.Lookups.{Found}
use Rattle.hwdb_device.proofs.SameLemmas.{for_same}
use Rattle.hwdb_device.proofs.laws.same_answers_same_text.Goals as goal

pub returns : goal.returns
returns c = record { same = λ tells other alike form d patterns. ap (λ (l : List Found). found_form form d patterns l) (for_same tells other alike d.machine d.chain) }
