use Rattle.std.proofs.Common.{map, take}
use Rattle.hwdb_text.specs.Views.{given_in}
use Rattle.hwdb_check.specs.Internal.{IsSameOf, own}
use Rattle.hwdb_check.proofs.replacements.same_lines.Given as goal

abbrev pub invariant-loop-given : goal.invariant-loop-given
invariant-loop-given l = IsSameOf (map (given_in own) (take l.given-index l.all)) l.same
