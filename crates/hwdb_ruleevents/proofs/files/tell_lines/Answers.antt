use Rattle.std.proofs.Common.{◌∙◌, ◌+◌, ◌++◌, ap, sym, map, drop, List}
use Rattle.hwdb_rulefiles.specs.LineViews.{line_of}
use Rattle.hwdb_rulefiles.specs.RuleLines.{RuleLine}
use Rattle.hwdb_ruleevents.specs.EffectViews.{knowledge_of}
use Rattle.hwdb_ruleevents.specs.FileViews.{progress_of}
use Rattle.hwdb_ruleevents.specs.Internal.{lines_from}
use Rattle.hwdb_ruleevents.specs.ReasonViews.{reason_of}
use Rattle.hwdb_ruleevents.proofs.ReasonLemmas.{left, line_added}
use Rattle.hwdb_ruleevents.proofs.TellLemmas.{from_here, line_on}
use Rattle.hwdb_ruleevents.proofs.files.tell_lines.Goals as goal

pub loop-number-preserved : goal.loop-number-preserved
loop-number-preserved g c =
    let k = knowledge_of (g.C.Commands.known c.args.knowledge.now.commands.now) c.args.knowledge.now.facts in
    let p = progress_of c.loop-number.progress in
    let next = progress_of c.in_ok-progress.progress in
    let l = line_of c.index-lines-number.result in
    let n = c.loop-number.number in
    let file = c.args.file in
    let old = map reason_of c.loop-number.progress.story.reasons.items in
    let more = map line_of (drop (n + 1) c.args.lines.now) in
    let here = from_here line_of c.args.lines.now n c.index-lines-number.result c.loop-number-test.true c.index-lines-number.is in (
      line_on k file n p next l more c.in_ok-progress.ensures.progress ∙ ap (λ (ls : List RuleLine). lines_from k file n p ls) (sym here) ∙ c.loop-number.invariant.0,
      line_added k file n p next l more old (map reason_of c.in_ok-progress.progress.story.reasons.items) c.in_ok-progress.ensures.progress c.in_ok-progress.ensures.reasons
          ∙ ap (λ (ls : List RuleLine). old ++ left k file n p ls) (sym here) ∙ c.loop-number.invariant.1,
    )
