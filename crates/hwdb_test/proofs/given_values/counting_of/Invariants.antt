use Rattle.std.proofs.Common.{◌≡◌, map, take}
use Rattle.std.specs.Prelude.{flat_map}
use Rattle.hwdb_query.specs.Views.{explained_values}
use Rattle.hwdb_spec_commands.specs.Wanted.{given_of}
use Rattle.hwdb_test.specs.Views.{given_at}
use Rattle.hwdb_test.proofs.given_values.counting_of.Given as goal

abbrev pub invariant-loop-explained : goal.invariant-loop-explained
invariant-loop-explained l = map given_at l.found.items ≡ flat_map (λ p. map (given_of p.0) (take 1 p.1)) (explained_values (take l.explained-index l.list))
