use Rattle.std.proofs.Common.{◌≡◌, ◌++◌, map, drop, filter, not}
use Rattle.hwdb_rulefiles.specs.PairViews.{value_view}
use Rattle.hwdb_rulefiles.specs.RuleTokens.{is_word}
use Rattle.hwdb_rulefiles.specs.Views.{text_of}
use Rattle.hwdb_ruleevents.proofs.files.others.Given as goal

abbrev pub invariant-loop-name : goal.invariant-loop-name
invariant-loop-name l =
    map text_of l.all.items ++ filter (λ name. not (is_word (value_view l.label) name)) (map text_of (drop l.name-index l.waiting))
    ≡ filter (λ name. not (is_word (value_view l.label) name)) (map text_of l.waiting)
