use Rattle.std.proofs.Common.{◌≡◌, drop, map}
use Rattle.std.specs.List.{list_any}
use Rattle.hwdb_spec_commands.specs.Wanted.{is_given}
use Rattle.hwdb_test.specs.Views.{line_at, pair_at}
use Rattle.hwdb_test.proofs.holding.any_given.Given as goal

abbrev pub invariant-loop-given : goal.invariant-loop-given
invariant-loop-given l = list_any (is_given (line_at l.line)) (map pair_at (drop l.given-index l.found)) ≡ list_any (is_given (line_at l.line)) (map pair_at l.found)
