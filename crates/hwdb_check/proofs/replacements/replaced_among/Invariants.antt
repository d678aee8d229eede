use Rattle.std.proofs.Common.{map, take}
use Rattle.hwdb_text.specs.Views.{given_in}
use Rattle.hwdb_check.specs.Internal.{IsReplacedBy, own}
use Rattle.hwdb_check.proofs.replacements.replaced_among.Given as goal

abbrev pub invariant-loop-given : goal.invariant-loop-given
invariant-loop-given l = IsReplacedBy (map (given_in own) (take l.given-index l.all)) (map (given_in own) l.all) l.replaced
