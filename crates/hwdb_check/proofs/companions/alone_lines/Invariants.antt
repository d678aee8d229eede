use Rattle.std.proofs.Common.{◌≡◌, map, take}
use Rattle.hwdb_spec_commands.specs.Surroundings.{companions_text}
use Rattle.hwdb_text.specs.Views.{given_in}
use Rattle.hwdb_check.specs.Internal.{lacks_of, lines_where, own}
use Rattle.hwdb_check.proofs.companions.alone_lines.Given as goal

abbrev pub invariant-loop-given : goal.invariant-loop-given
invariant-loop-given l = l.lines.items ≡ lines_where (λ a. lacks_of l.places a.position.pattern (companions_text a.position.key)) (map (given_in own) (take l.given-index l.all))
