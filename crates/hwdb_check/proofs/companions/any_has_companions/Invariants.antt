use Rattle.std.proofs.Common.{◌≡◌, drop, map}
use Rattle.std.specs.List.{list_any}
use Rattle.hwdb_text.specs.Views.{given_in}
use Rattle.hwdb_check.specs.Internal.{AreCompanions, has_companions, own}
use Rattle.hwdb_check.proofs.companions.any_has_companions.Given as goal

abbrev pub invariant-loop-given : goal.invariant-loop-given
invariant-loop-given l = record {
  rest : list_any has_companions (map (given_in own) (drop l.given-index l.all)) ≡ list_any has_companions (map (given_in own) l.all);
  last : AreCompanions l.last;
}
