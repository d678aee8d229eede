use Rattle.std.proofs.Common.{◌≡◌, map, drop}
use Rattle.std.specs.List.{list_any}
use Rattle.hwdb_rulefiles.specs.PairViews.{value_view}
use Rattle.hwdb_rulefiles.specs.RuleTokens.{is_word}
use Rattle.hwdb_rulefiles.specs.Views.{text_of}
use Rattle.hwdb_ruleevents.proofs.files.waits.Given as goal

abbrev pub invariant-loop-name : goal.invariant-loop-name
invariant-loop-name l =
    list_any (is_word (value_view l.label)) (map text_of (drop l.name-index l.waiting)) ≡ list_any (is_word (value_view l.label)) (map text_of l.waiting)
