-- What is told of files means.
use Rattle.std.specs.Prelude.{List, map}
use Rattle.std.specs.Borrow.{Bor}
use Rattle.hwdb_rulefiles.specs.RuleLines
use Rattle.hwdb_rulefiles.specs.LineViews.{line_of}
use Rattle.hwdb_rulefiles.specs.Views.{text_of}
use Rattle.hwdb_rulefiles.specs.declared.lines.RuleLine.{RuleLine}
use Rattle.hwdb_ruleevents.specs.Telling
use Rattle.hwdb_ruleevents.specs.Internal
use Rattle.hwdb_ruleevents.specs.ChangeViews.{held_of}
use Rattle.hwdb_ruleevents.specs.ParentViews.{chosen_of}
use Rattle.hwdb_ruleevents.specs.TellViews.{told_of}
use Rattle.hwdb_ruleevents.specs.declared.files.Story.{Story}
use Rattle.hwdb_ruleevents.specs.declared.files.Ways.{Ways}
use Rattle.hwdb_ruleevents.specs.declared.files.Progress.{Progress}

abbrev pub lines_in : List RuleLine → List RuleLines.RuleLine
lines_in lines = map line_of lines

abbrev pub lines_of : Bor (List RuleLine) → List RuleLines.RuleLine
lines_of lines = map line_of lines.now

abbrev pub ways_of : Ways → Telling.Ways
ways_of w = record { here = w.here; waiting = map text_of w.waiting.items }

abbrev pub story_of : Story → Telling.Story
story_of s = record { told = map told_of s.told.items; changes = map held_of s.changes.items; parent = chosen_of s.parent }

abbrev pub progress_of : Progress → Internal.Progress
progress_of p = record { story = story_of p.story; ways = ways_of p.ways }
