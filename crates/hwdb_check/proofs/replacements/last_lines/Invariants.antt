use Rattle.std.proofs.Common.{map, take}
use Rattle.hwdb_text.specs.Views.{given_in}
use Rattle.hwdb_check.specs.Internal.{IsLastOf, own}
use Rattle.hwdb_check.proofs.replacements.last_lines.Given as goal

abbrev pub invariant-loop-given : goal.invariant-loop-given
invariant-loop-given l = IsLastOf (map (given_in own) (take l.given-index l.all)) l.last
