use Rattle.std.proofs.Common.{◌≡◌, map, not, take}
use Rattle.std.specs.Prelude.{filter}
use Rattle.hwdb_test.specs.Internal.{has_text}
use Rattle.hwdb_test.specs.Views.{given_at}
use Rattle.hwdb_test.proofs.holding.without_keys.Given as goal

abbrev pub invariant-loop-given : goal.invariant-loop-given
invariant-loop-given l = map given_at l.list.items ≡ filter (λ g. not (has_text l.keys g.key)) (map given_at (take l.given-index l.found))
