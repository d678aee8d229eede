use Rattle.std.proofs.Common.{◌∙◌, ◌++◌}
use Rattle.std.proofs.lemmas.Result.{on_ok_weaker}
use Rattle.hwdb_spec_commands.specs.Near.{why_text}
use Rattle.hwdb_near.specs.Views.{front_at, pattern_at}
use Rattle.hwdb_near.proofs.ReportLemmas.{near_written}
use Rattle.hwdb_near.proofs.reports.push_near.Goals as goal

pub returns : goal.returns
returns c =
    let at = pattern_at c.args.near.now.at in
    let device = c.args.device.now in
    let stop = c.in_ok-stop.stop in
    let why = c.deref.ensures.value ∙ c.in_ok-push_why.ensures
    ∙ (λ i. c.new-why.ensures.items i ++ why_text at.pattern device stop.device (c.after.ensures i) (c.after-2.ensures i)) in
    on_ok_weaker c.push_marked-2.result
    (λ h. near_written at device (front_at stop) stop.pattern c.args.text.now.items c.push_said_line.new.text.items c.push_marked.new.text.items c.push_marked-2.new.text.items _
    c.in_ok-stop.ensures.computed c.in_ok-stop.ensures.place why c.in_ok-push_said_line.ensures c.in_ok-push_marked.ensures h) c.push_marked-2.ensures
