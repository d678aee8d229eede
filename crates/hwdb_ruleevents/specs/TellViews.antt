-- What is told of lines means.
use Rattle.std.specs.Prelude.{map}
use Rattle.hwdb_rulefiles.specs.TokenViews.{token_of}
use Rattle.hwdb_ruleevents.specs.Events.{Turn, turn}
use Rattle.hwdb_ruleevents.specs.Telling
use Rattle.hwdb_ruleevents.specs.ChangeViews.{held_of, value_of}
use Rattle.hwdb_rulefiles.specs.PairViews.{value_view}
use Rattle.hwdb_ruleevents.specs.declared.telling.Place.{Place}
use Rattle.hwdb_ruleevents.specs.declared.telling.Told.{Told}
use Rattle.hwdb_ruleevents.specs.declared.telling.Tale.{Tale}

abbrev pub turn_of : Place → Turn
turn_of at = turn at.file at.line

abbrev pub told_of : Told → Telling.Told
told_of t =
    record { at = turn t.file t.line; token = token_of t.token.now; text = value_view t.text; alias = value_of t.alias; certain = t.certain }

abbrev pub tale_of : Tale → Telling.Tale
tale_of t = record { told = map told_of t.told.items; passed = t.passed; changes = map held_of t.changes.items }
