use Rattle.std.proofs.Common.{◌≡◌, map, drop}
use Rattle.hwdb_rulefiles.specs.TokenViews.{token_of}
use Rattle.hwdb_rulerun.specs.Telling
use Rattle.hwdb_rulerun.specs.Views.{seen_of}
use Rattle.hwdb_rulerun.proofs.conditions.some_from.Given as goal

abbrev pub invariant-loop-seen : goal.invariant-loop-seen
invariant-loop-seen l =
    Telling.some_from l.some (map token_of l.tokens) (map seen_of (drop l.seen-index l.devices))
    ≡ Telling.some_from l.fn.before (map token_of l.tokens) (map seen_of l.devices)
