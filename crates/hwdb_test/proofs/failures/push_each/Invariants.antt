use Rattle.std.proofs.Common.{◌≡◌, ◌++◌, map, take}
use Rattle.std.specs.Prelude.{Some, flat_map}
use Rattle.hwdb_spec_commands.specs.Wanted.{failure_text}
use Rattle.hwdb_test.specs.Views.{given_at, line_at}
use Rattle.hwdb_test.proofs.failures.push_each.Given as goal

abbrev pub invariant-loop-given : goal.invariant-loop-given
invariant-loop-given l =
    l.text.items ≡ l.fn.text.items ++ flat_map (λ g. failure_text l.failure.path.now l.failure.device.now (line_at l.failure.line.now) (Some g)) (map given_at (take l.given-index l.failure.instead.now))
