use Rattle.std.proofs.Common.{◌≡◌, map, take}
use Rattle.hwdb_spec_commands.specs.SampleDevices.{keyed_texts}
use Rattle.hwdb_samples.specs.Views.{property_texts}
use Rattle.hwdb_databases.specs.Internal.Holding.{slot_in}
use Rattle.hwdb_databases.proofs.sampling.rules_of.Given as goal

abbrev pub invariant-loop-slot : goal.invariant-loop-slot
invariant-loop-slot l = map property_texts l.rules.items ≡ map keyed_texts (map (slot_in l.patterns) (take l.slot-index l.slots))
