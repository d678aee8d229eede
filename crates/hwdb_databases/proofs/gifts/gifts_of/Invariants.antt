use Rattle.std.proofs.Common.{◌≡◌, map, take}
use Rattle.std.specs.Prelude.{flat_map}
use Rattle.hwdb_query.specs.Views.{explained_values}
use Rattle.hwdb_spec_commands.specs.DeviceDifferences.{given_to}
use Rattle.hwdb_spec_commands.specs.Reviews.{as_given}
use Rattle.hwdb_databases.specs.Views.{assignment_of}
use Rattle.hwdb_databases.proofs.gifts.gifts_of.Given as goal

abbrev pub invariant-loop-explained : goal.invariant-loop-explained
invariant-loop-explained l =
    map assignment_of l.gifts.items ≡ flat_map (λ p. map as_given (map (given_to l.fn.device.value.items) (take 1 p.1))) (explained_values (take l.explained-index l.list))
