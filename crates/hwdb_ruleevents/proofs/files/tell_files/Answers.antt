use Rattle.std.proofs.Common.{◌∙◌, ◌+◌, ◌++◌, ap, sym, map, drop, List}
use Rattle.hwdb_rulefiles.specs.RuleLines.{RuleLine}
use Rattle.hwdb_ruleevents.specs.Effects.{with_chosen}
use Rattle.hwdb_ruleevents.specs.EffectViews.{knowledge_of}
use Rattle.hwdb_ruleevents.specs.FileViews.{lines_of, story_of}
use Rattle.hwdb_ruleevents.specs.Reasons.{reasons_of_files}
use Rattle.hwdb_ruleevents.specs.ReasonViews.{reason_of}
use Rattle.hwdb_ruleevents.specs.Telling.{tell_files}
use Rattle.hwdb_ruleevents.proofs.ReasonLemmas.{file_added}
use Rattle.hwdb_ruleevents.proofs.TellLemmas.{file_on, from_here}
use Rattle.hwdb_ruleevents.proofs.files.tell_files.Goals as goal

pub loop-number-preserved : goal.loop-number-preserved
loop-number-preserved g c =
    let k = knowledge_of (g.C.Commands.known c.args.knowledge.now.commands.now) c.args.knowledge.now.facts in
    let s = story_of c.loop-number.story in
    let next = story_of c.in_ok-story.story in
    let lines = lines_of c.index-files-number.result in
    let n = c.loop-number.number in
    let old = map reason_of c.loop-number.story.reasons.items in
    let more = map lines_of (drop (n + 1) c.args.files.now) in
    let here = from_here lines_of c.args.files.now n c.index-files-number.result c.loop-number-test.true c.index-files-number.is in (
      file_on k n s next lines more c.in_ok-story.ensures.told
          ∙ ap (λ (ls : List (List RuleLine)). s.told ++ tell_files (with_chosen k s.parent) n s.changes ls) (sym here) ∙ c.loop-number.invariant.0,
      file_added k n s next lines more old (map reason_of c.in_ok-story.story.reasons.items) c.in_ok-story.ensures.told c.in_ok-story.ensures.reasons
          ∙ ap (λ (ls : List (List RuleLine)). old ++ reasons_of_files (with_chosen k s.parent) n s.changes ls) (sym here) ∙ c.loop-number.invariant.1,
    )
