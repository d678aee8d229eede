use Rattle.hwdb_tool.proofs.MomentLemmas.{leaves_old}
use Rattle.hwdb_tool.proofs.HidingPlanLemmas.{goes_on, stops_there}
use Rattle.hwdb_spec_program.specs.HidingPlan.{hiding_plan}
use Rattle.std.proofs.Common.{inl, []}
use Rattle.hwdb_spec_commands.specs.Runs.{files_by, told_by}
use Rattle.hwdb_tool.proofs.FlushLemmas.{hands_on_twice}
use Rattle.hwdb_tool.proofs.hiding.update_telling.Goals as goal

pub returns-clause-hands_on : goal.returns-clause-hands_on
returns-clause-hands_on g c = hands_on_twice _ _ _ _ _ _ c.in_ok-tell_hiding.ensures.unfailed c.in_ok-tell_hiding.ensures.hands_on c.update.ensures.hands_on

pub returns-in_err-tell_hiding-clause-follows : goal.returns-in_err-tell_hiding-clause-follows
returns-in_err-tell_hiding-clause-follows g c = λ tells.
    let F = files_by g.D.Store.seen g.D.System.may_fail g.D.Store.may_leave g.D.Store.failures in
    let T = told_by g.E.Sink.taken g.E.Sink.failures in (
      [],
      stops_there (g.D.System.reads c.args.system.now) (hiding_plan c.args.asked.usr c.args.asked.verbose c.args.asked.root.now) _ c.in_err-tell_hiding.field-0.0 (F c.args.system.now) (T c.args.err.now) (T c.tell_hiding.new.err)
          c.from_residual.result (c.in_err-tell_hiding.ensures.says tells) c.from_residual.ensures.1,
    )

pub returns-clause-follows : goal.returns-clause-follows
returns-clause-follows g c = λ tells.
    let F = files_by g.D.Store.seen g.D.System.may_fail g.D.Store.may_leave g.D.Store.failures in
    let T = told_by g.E.Sink.taken g.E.Sink.failures in
    let rest = c.update.ensures.follows tells in (
      rest.0,
      goes_on (g.D.System.reads c.args.system.now) (hiding_plan c.args.asked.usr c.args.asked.verbose c.args.asked.root.now) _ (F c.args.system.now) (F c.update.new.system) (T c.args.err.now) (T c.tell_hiding.new.err)
          (T c.update.new.err) c.update.result (c.in_ok-tell_hiding.ensures.says tells) rest.1,
    )

pub returns-in_err-tell_hiding-clause-any_crash : goal.returns-in_err-tell_hiding-clause-any_crash
returns-in_err-tell_hiding-clause-any_crash g c = λ tells. (
  [],
  leaves_old g.D.Store.moment g.D.Store.left_since c.args.system.now _ (λ p v l. inl (inl (g.met.D.Store.only_now c.args.system.now p v l))),
)
