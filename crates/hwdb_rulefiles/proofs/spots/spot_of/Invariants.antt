use Rattle.std.proofs.Common.{◌≡◌, ◌-◌, length, map, drop}
use Rattle.hwdb_rulefiles.specs.RuleSpots
use Rattle.hwdb_rulefiles.specs.Views.{text_of, reading_of}
use Rattle.hwdb_rulefiles.proofs.spots.spot_of.Given as goal

abbrev pub invariant-loop-index : goal.invariant-loop-index
invariant-loop-index l =
    RuleSpots.spot_in (reading_of l.reader) l.index (map text_of (drop l.index l.rows)) l.place l.spot
    ≡ RuleSpots.spot_of (map text_of l.rows) l.line l.place

abbrev pub decreases-loop-index : goal.decreases-loop-index
decreases-loop-index l = length l.rows - l.index
