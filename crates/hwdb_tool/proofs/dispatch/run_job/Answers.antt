use Rattle.std.proofs.Common.{Bool, inl, subst, sym, ◌∙◌, true}
use Rattle.hwdb_spec.specs.Store.{LeavesOnly}
use Rattle.hwdb_spec_program.specs.Program.{OldOrDone}
use Rattle.hwdb_spec_program.specs.ProgramPlan.{ShowsPlan, shown_plan}
use Rattle.hwdb_spec_commands.specs.Runs.{told_by}
use Rattle.hwdb_spec_commands.specs.SysfsAnswers.{sight_by}
use Rattle.hwdb_tool.proofs.AdvisingLemmas.{both_are, no_update_has, plainly_shown}
use Rattle.hwdb_tool.proofs.MomentLemmas.{leaves_old}
use Rattle.hwdb_tool.proofs.OverTextLemmas.{no_update}
use Rattle.hwdb_plan.specs.Ended.{outs}
use Rattle.hwdb_tool.proofs.TextProgramLemmas.{plainly_planned}
use Rattle.hwdb_tool.proofs.dispatch.run_job.Goals as goal
use Rattle.hwdb_tool.specs.Advising.{is_advised}

-- ---- with a line on what to try next
pub run_advised-requires-clause-said : goal.run_advised-requires-clause-said
run_advised-requires-clause-said g c = (both_are c.args.at_terminal (is_advised c.args.job.now.task) (sym c.wants_advice.ensures.is ∙ c.if-wants_advice.true)).1

pub returns-then-wants_advice-clause-any_moment : goal.returns-then-wants_advice-clause-any_moment
returns-then-wants_advice-clause-any_moment g c = λ tells.
    let before = c.args.system.now in
    let outcomes = OldOrDone (g.D.System.may_fail before) c.args.job.now (g.D.Store.seen before) (g.D.Store.may_leave before) in
    subst (λ (s : g.row.D.Denot). LeavesOnly g.D.Store.moment g.D.Store.left_since before s outcomes) (sym c.run_advised.ensures.kept)
    (leaves_old g.D.Store.moment g.D.Store.left_since before outcomes (λ p v l. inl (g.met.D.Store.only_now before p v l)))

pub returns-then-wants_advice-clause-update : goal.returns-then-wants_advice-clause-update
returns-then-wants_advice-clause-update g c = λ update.
    absurd (no_update_has c.args.job.now.task (both_are c.args.at_terminal (is_advised c.args.job.now.task) (sym c.wants_advice.ensures.is ∙ c.if-wants_advice.true)).1 update)

pub returns-then-wants_advice-clause-follows : goal.returns-then-wants_advice-clause-follows
returns-then-wants_advice-clause-follows g c = λ tells words asked.
    let O = told_by g.O.Sink.taken g.O.Sink.failures in
    let E = told_by g.E.Sink.taken g.E.Sink.failures in
    let I = told_by g.I.Source.left g.I.Source.failures in
    let before = outs (E c.args.err.now) (O c.args.out.now) in
    let now = outs (E c.run_advised.new.err) (O c.run_advised.new.out) in
    subst (λ (b : Bool). ShowsPlan (λ a. shown_plan b a words) (g.D.System.reads c.args.system.now) (sight_by g.D.DeviceFiles.answers c.args.system.now) (I c.args.input.now) (I c.run_advised.new.input) before now c.run_advised.result)
    (sym (both_are c.args.at_terminal (is_advised c.args.job.now.task) (sym c.wants_advice.ensures.is ∙ c.if-wants_advice.true)).0)
    (c.run_advised.ensures.follows tells words asked)

pub returns-then-wants_advice-clause-updates : goal.returns-then-wants_advice-clause-updates
returns-then-wants_advice-clause-updates g c = λ tells u is.
    absurd (no_update_has c.args.job.now.task (both_are c.args.at_terminal (is_advised c.args.job.now.task) (sym c.wants_advice.ensures.is ∙ c.if-wants_advice.true)).1 (u, is))

pub returns-then-wants_advice-clause-any_crash : goal.returns-then-wants_advice-clause-any_crash
returns-then-wants_advice-clause-any_crash g c = λ tells u is.
    absurd (no_update_has c.args.job.now.task (both_are c.args.at_terminal (is_advised c.args.job.now.task) (sym c.wants_advice.ensures.is ∙ c.if-wants_advice.true)).1 (u, is))

-- ---- without one
pub returns-then-asks_text-clause-any_moment : goal.returns-then-asks_text-clause-any_moment
returns-then-asks_text-clause-any_moment g c = λ tells.
    let before = c.args.system.now in
    leaves_old g.D.Store.moment g.D.Store.left_since before (OldOrDone (g.D.System.may_fail before) c.args.job.now (g.D.Store.seen before) (g.D.Store.may_leave before))
    (λ p v l. inl (g.met.D.Store.only_now before p v l))

pub returns-then-asks_text-clause-update : goal.returns-then-asks_text-clause-update
returns-then-asks_text-clause-update g c = λ update. absurd (no_update c.args.job.now.text c.args.job.now.task (sym c.asks_text.ensures ∙ c.if-asks_text.true) update)

pub returns-then-asks_text-clause-follows : goal.returns-then-asks_text-clause-follows
returns-then-asks_text-clause-follows g c = λ tells words asked.
    let O = told_by g.O.Sink.taken g.O.Sink.failures in
    let E = told_by g.E.Sink.taken g.E.Sink.failures in
    let I = told_by g.I.Source.left g.I.Source.failures in
    let before = outs (E c.args.err.now) (O c.args.out.now) in
    let now = outs (E c.run_over_text.new.err) (O c.run_over_text.new.out) in
    plainly_shown words c.args.job.now asked (g.D.System.reads c.args.system.now) (sight_by g.D.DeviceFiles.answers c.args.system.now) (I c.args.input.now) (I c.run_over_text.new.input) before now c.run_over_text.result
    c.args.at_terminal (sym c.wants_advice.ensures.is ∙ c.if-wants_advice.false) (c.run_over_text.ensures.follows tells words asked)

pub returns-clause-follows : goal.returns-clause-follows
returns-clause-follows g c = λ tells words asked.
    let O = told_by g.O.Sink.taken g.O.Sink.failures in
    let E = told_by g.E.Sink.taken g.E.Sink.failures in
    let I = told_by g.I.Source.left g.I.Source.failures in
    let before = outs (E c.args.err.now) (O c.args.out.now) in
    let now = outs (E c.run.new.err) (O c.run.new.out) in
    let w = g.D.System.reads c.args.system.now in
    let sight = sight_by g.D.DeviceFiles.answers c.args.system.now in
    plainly_shown words c.args.job.now asked w sight (I c.args.input.now) (I c.run.new.input) before now c.run.result
    c.args.at_terminal (sym c.wants_advice.ensures.is ∙ c.if-wants_advice.false)
    (plainly_planned w sight (I c.args.input.now) (I c.run.new.input) before words c.args.job.now asked now c.run.result
    (sym c.asks_text.ensures ∙ c.if-asks_text.false) (c.run.ensures.follows tells words asked))

pub returns-then-asks_text-clause-updates : goal.returns-then-asks_text-clause-updates
returns-then-asks_text-clause-updates g c = λ tells u is. absurd (no_update c.args.job.now.text c.args.job.now.task (sym c.asks_text.ensures ∙ c.if-asks_text.true) (u, is))

pub returns-then-asks_text-clause-any_crash : goal.returns-then-asks_text-clause-any_crash
returns-then-asks_text-clause-any_crash g c = λ tells u is. absurd (no_update c.args.job.now.text c.args.job.now.task (sym c.asks_text.ensures ∙ c.if-asks_text.true) (u, is))
