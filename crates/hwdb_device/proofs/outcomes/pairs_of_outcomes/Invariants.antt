use Rattle.std.proofs.Common.{◌≡◌, map, take}
use Rattle.hwdb_spec_commands.specs.DeviceTexts
use Rattle.hwdb_query.specs.Views.{pairs_bytes}
use Rattle.hwdb_device.specs.Views.{outcomes_in}
use Rattle.hwdb_device.proofs.outcomes.pairs_of_outcomes.Given as goal

abbrev pub invariant-loop-outcome : goal.invariant-loop-outcome
invariant-loop-outcome l = pairs_bytes l.pairs.items ≡ map DeviceTexts.value_in_end (outcomes_in (take l.outcome-index l.outcomes))
