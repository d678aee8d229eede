use Rattle.std.proofs.Common.{◌≡◌, map, drop}
use Rattle.hwdb_rulefiles.specs.TokenViews.{token_of}
use Rattle.hwdb_rulerun.specs.Views.{seen_of}
use Rattle.hwdb_ruleevents.specs.Parents
use Rattle.hwdb_ruleevents.proofs.parents.first_told.Given as goal

abbrev pub invariant-loop-seen : goal.invariant-loop-seen
invariant-loop-seen l =
    Parents.first_told (map token_of l.tokens) (map seen_of (drop l.seen-index l.devices)) ≡ Parents.first_told (map token_of l.tokens) (map seen_of l.devices)
