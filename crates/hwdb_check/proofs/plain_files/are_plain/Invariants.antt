use Rattle.std.proofs.Common.{drop, map}
use Rattle.hwdb_text.specs.Views.{given_in}
use Rattle.hwdb_check.specs.Internal.{own}
use Rattle.hwdb_check.specs.Plain.{AreSteady}
use Rattle.hwdb_check.proofs.plain_files.are_plain.Given as goal

abbrev pub invariant-loop-given : goal.invariant-loop-given
invariant-loop-given l = AreSteady l.above (map (given_in own) (drop l.given-index l.all)) → AreSteady 0 (map (given_in own) l.all)
