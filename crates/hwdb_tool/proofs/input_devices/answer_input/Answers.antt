use Rattle.std.proofs.Common.{ap, inr, refl, string_bytes, subst, None}
use Rattle.hwdb_spec_commands.specs.Queries.{IsOfInput}
use Rattle.hwdb_spec_commands.specs.Refusals.{IsOfCause}
use Rattle.hwdb_spec_commands.specs.Runs.{told_by}
use Rattle.hwdb_spec.specs.Lemmas.Calls.{failed_call}
use Rattle.hwdb_plan.specs.Answers as plans
use Rattle.hwdb_plan.specs.Asking.{asked}
use Rattle.hwdb_plan.specs.Ended.{outs}
use Rattle.hwdb_tool.proofs.AnswerLemmas.{if_bad}
use Rattle.hwdb_tool.proofs.LookupPlanLemmas.{streamed_done, streamed_stops, unread_shows}
use Rattle.hwdb_tool.proofs.input_devices.answer_input.Goals as goal

pub returns-in-Ok-clause-quiet : goal.returns-in-Ok-clause-quiet
returns-in-Ok-clause-quiet g c = λ tells.
    c.in-Ok.ensures.quiet (tells, c.in_ok-path.ensures.asked tells, c.in_ok-watch.ensures tells)

pub returns-clause-quiet : goal.returns-clause-quiet
returns-clause-quiet g c = λ tells.
    c.in-Err.ensures.quiet (tells, c.in_ok-path.ensures.asked tells, c.in_ok-watch.ensures tells)

pub returns-in_err-watch-clause-follows : goal.returns-in_err-watch-clause-follows
returns-in_err-watch-clause-follows g c = λ tells. inr (c.from_residual.ensures.1, refl)

pub returns-in_err-path-clause-follows : goal.returns-in_err-path-clause-follows
returns-in_err-path-clause-follows g c = λ tells.
    let input = told_by g.I.Source.left g.I.Source.failures c.args.input.now in
    unread_shows (g.D.System.reads c.args.system.now) (asked c.args.root.now) (plans.streamed c.args.form) input input
    (outs (told_by g.E.Sink.taken g.E.Sink.failures c.args.err.now) (told_by g.O.Sink.taken g.O.Sink.failures c.args.out.now))
    c.in_err-path.field-0.0 c.from_residual-in_err-path.result (c.in_err-path.ensures.follows tells) c.from_residual-in_err-path.ensures.1

pub returns-in-Ok-clause-follows : goal.returns-in-Ok-clause-follows
returns-in-Ok-clause-follows g c = λ tells.
    let f = c.in_ok-path.field-0 in
    let input = told_by g.I.Source.left g.I.Source.failures in
    let err = told_by g.E.Sink.taken g.E.Sink.failures in
    let out = told_by g.O.Sink.taken g.O.Sink.failures in
    streamed_done (g.D.System.reads c.args.system.now) (asked c.args.root.now) c.args.form (string_bytes f.path) f.bytes.items (c.in_ok-path.ensures.follows tells) c.law_one_tree.ensures
    (input c.args.input.now) (input c.run_renewed.new.input) (outs (err c.args.err.now) (out c.args.out.now)) (outs (err c.run_renewed.new.err) (out c.run_renewed.new.out))
    _ c.run_renewed.result c.run_renewed.ensures.checked c.in-Ok.is (c.in-Ok.ensures.printed (tells, c.in_ok-path.ensures.asked tells, c.in_ok-watch.ensures tells)) c.in-Ok.ensures.all c.in-Ok.ensures.writes (ap err (c.in-Ok.ensures.quiet (tells, c.in_ok-path.ensures.asked tells, c.in_ok-watch.ensures tells)))

pub returns-clause-follows : goal.returns-clause-follows
returns-clause-follows g c = λ tells.
    let f = c.in_ok-path.field-0 in
    let e = c.in-Err.error in
    let input = told_by g.I.Source.left g.I.Source.failures in
    let err = told_by g.E.Sink.taken g.E.Sink.failures in
    let out = told_by g.O.Sink.taken g.O.Sink.failures in
    streamed_stops (g.D.System.reads c.args.system.now) (asked c.args.root.now) c.args.form (string_bytes f.path) f.bytes.items (c.in_ok-path.ensures.follows tells) c.law_one_tree.ensures
    (input c.args.input.now) (input c.run_renewed.new.input) (outs (err c.args.err.now) (out c.args.out.now)) (outs (err c.run_renewed.new.err) (out c.run_renewed.new.out))
    c.run_renewed.result c.run_renewed.ensures.checked e c.refusal_of.result c.in-Err.is c.in-Err.ensures.refusals
    (subst (λ p. IsOfInput e p c.refusal_of.result) c.as_bytes.ensures.value c.refusal_of.ensures.is)
    (λ fault is. subst (λ p. IsOfCause e p None c.refusal_of.result) c.as_bytes.ensures.value (c.refusal_of.ensures.fault fault is))
    (λ is. failed_call _ _ (c.in-Err.ensures.reads.0 is)) c.in-Err.ensures.line (c.in-Err.ensures.before (tells, c.in_ok-path.ensures.asked tells, c.in_ok-watch.ensures tells)) c.in-Err.ensures.writes
    (if_bad e (λ both. ap out both.1) c.in-Err.ensures.untouched) (ap err (c.in-Err.ensures.quiet (tells, c.in_ok-path.ensures.asked tells, c.in_ok-watch.ensures tells)))
