use Rattle.std.proofs.Common.{subst, List, ℕ}
use Rattle.hwdb_spec_commands.specs.Runs.{HasTaken, WasCut, told_by}
use Rattle.hwdb_tool.specs.Listing.{asked_list_plan}
use Rattle.hwdb_tool.proofs.LookupPlanLemmas.{text_shows, text_stops}
use Rattle.hwdb_tool.proofs.answers.list.Goals as goal

pub returns-in_err-say-clause-follows : goal.returns-in_err-say-clause-follows
returns-in_err-say-clause-follows g c = λ tells input err.
    let told = told_by g.O.Sink.taken g.O.Sink.failures in
    let refused = c.in_err-say.ensures.refused in
    text_stops (g.D.System.reads c.args.system.now) (asked_list_plan c.args.root.now c.args.asked) c.in-Some.text.items (c.in-Some.ensures tells) input err (told c.args.out.now) (told c.say.new.err)
    c.in_err-say.field-0.0 c.from_residual.result c.from_residual.ensures.1
    (refused.0, subst (λ (t : List ℕ). WasCut t (told c.args.out.now) (told c.say.new.err)) c.deref.ensures.value refused.1)

pub returns-clause-follows : goal.returns-clause-follows
returns-clause-follows g c = λ tells input err.
    let told = told_by g.O.Sink.taken g.O.Sink.failures in
    text_shows (g.D.System.reads c.args.system.now) (asked_list_plan c.args.root.now c.args.asked) c.in-Some.text.items (c.in-Some.ensures tells) input err (told c.args.out.now) (told c.say.new.err)
    (subst (λ (t : List ℕ). HasTaken t (told c.args.out.now) (told c.say.new.err)) c.deref.ensures.value c.in_ok-say.ensures.took)
