use Rattle.std.proofs.Common.{◌≡◌, ◌++◌, map, drop}
use Rattle.hwdb_rulefiles.specs.LineViews.{line_of}
use Rattle.hwdb_ruleevents.specs.Effects.{with_chosen}
use Rattle.hwdb_ruleevents.specs.EffectViews.{knowledge_of}
use Rattle.hwdb_ruleevents.specs.FileViews.{progress_of, story_of}
use Rattle.hwdb_ruleevents.specs.Internal.{lines_from}
use Rattle.hwdb_ruleevents.specs.Reasons.{reasons_of_lines}
use Rattle.hwdb_ruleevents.specs.ReasonViews.{reason_of}
use Rattle.hwdb_ruleevents.specs.Telling.{story_before, tell_lines, start}
use Rattle.hwdb_ruleevents.proofs.ReasonLemmas.{left}
use Rattle.hwdb_ruleevents.proofs.files.tell_lines.Given as goal

abbrev pub invariant-loop-number : goal.invariant-loop-number
invariant-loop-number g l =
    let k = knowledge_of (g.C.Commands.known l.knowledge.commands.now) l.knowledge.facts in
    let before = l.fn.story in
    (lines_from k l.file l.number (progress_of l.progress) (map line_of (drop l.number l.lines))
    ≡ story_before (story_of before).told (tell_lines (with_chosen k (story_of before).parent) l.file 0 (story_of before).changes start (map line_of l.lines)))
    × (map reason_of l.progress.story.reasons.items ++ left k l.file l.number (progress_of l.progress) (map line_of (drop l.number l.lines))
    ≡ map reason_of before.reasons.items ++ reasons_of_lines (with_chosen k (story_of before).parent) l.file 0 (story_of before).changes start (map line_of l.lines))
