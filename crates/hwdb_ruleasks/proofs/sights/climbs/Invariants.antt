use Rattle.std.proofs.Common.{◌≡◌}
use Rattle.std.specs.List.{list_any}
use Rattle.std.specs.Prelude.{codes}
use Rattle.std.specs.Str.{bytes_eq}
use Rattle.hwdb_spec_rules.specs.RuleSights
use Rattle.hwdb_text.specs.PiecesLeft.{pieces_left}
use Rattle.hwdb_ruleasks.proofs.sights.climbs.Given as goal

abbrev pub invariant-loop-part : goal.invariant-loop-part
invariant-loop-part l =
    list_any (bytes_eq (codes "..")) (pieces_left l.part-iterator) ≡ RuleSights.climbs l.name
