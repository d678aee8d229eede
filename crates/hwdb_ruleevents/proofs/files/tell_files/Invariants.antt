use Rattle.std.proofs.Common.{◌≡◌, ◌++◌, map, drop}
use Rattle.hwdb_ruleevents.specs.ChangeViews.{change_of}
use Rattle.hwdb_ruleevents.specs.Effects.{with_chosen}
use Rattle.hwdb_ruleevents.specs.EffectViews.{knowledge_of}
use Rattle.hwdb_ruleevents.specs.FileViews.{lines_of, story_of}
use Rattle.hwdb_ruleevents.specs.Reasons.{reasons_of_files}
use Rattle.hwdb_ruleevents.specs.ReasonViews.{reason_of}
use Rattle.hwdb_ruleevents.specs.Telling.{tell_files}
use Rattle.hwdb_ruleevents.proofs.files.tell_files.Given as goal

abbrev pub invariant-loop-number : goal.invariant-loop-number
invariant-loop-number g l =
    let k = knowledge_of (g.C.Commands.known l.knowledge.commands.now) l.knowledge.facts in
    let s = story_of l.story in
    let more = map lines_of (drop l.number l.files) in
    (s.told ++ tell_files (with_chosen k s.parent) l.number s.changes more ≡ tell_files k 0 (map change_of l.changes) (map lines_of l.files))
    × (map reason_of l.story.reasons.items ++ reasons_of_files (with_chosen k s.parent) l.number s.changes more
    ≡ reasons_of_files k 0 (map change_of l.changes) (map lines_of l.files))
