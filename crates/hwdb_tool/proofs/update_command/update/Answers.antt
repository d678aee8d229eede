use Rattle.std.proofs.Common.{inl, subst, sym, ◌∙◌, Ok, []}
use Rattle.hwdb_spec_commands.specs.LeftOutTold.{AreTold}
use Rattle.hwdb_spec_commands.specs.LeftOut.{status_less, without}
use Rattle.hwdb_plan.specs.Putting.{PutsEnd}
use Rattle.hwdb_plan.specs.Update.{put_readable, update_plan}
use Rattle.hwdb_tool.proofs.UpdatePlanLemmas.{given_puts, update_ended, update_unread, update_unsaid, leaves_then}
use Rattle.hwdb_spec_commands.specs.Runs.{HasTaken, WasCut, files_by, told_by}
use Rattle.hwdb_tool.proofs.FlushLemmas.{hands_on_twice}
use Rattle.hwdb_tool.proofs.MomentLemmas.{leaves_less, leaves_old}
use Rattle.hwdb_tool.proofs.update_command.update.Goals as goal

pub returns-in_err-status-clause-any_moment : goal.returns-in_err-status-clause-any_moment
returns-in_err-status-clause-any_moment g c = λ tells.
    let seen = g.D.Store.seen c.args.system.now in
    let less = c.in_ok-readable.ensures.selected tells in
    leaves_less g.D.Store.moment g.D.Store.left_since c.args.system.now c.update_selected.new.system (g.D.System.may_fail c.args.system.now) c.args.asked.root.now c.args.asked.usr c.args.asked.skip
    seen (g.D.Store.may_leave c.args.system.now) less.left_out less.are
    (c.in_err-status.ensures.any_moment (without less.left_out c.args.asked.root.now seen) less.selected tells)

pub returns-clause-any_moment : goal.returns-clause-any_moment
returns-clause-any_moment g c = λ tells.
    let seen = g.D.Store.seen c.args.system.now in
    let less = c.in_ok-readable.ensures.selected tells in
    leaves_less g.D.Store.moment g.D.Store.left_since c.args.system.now c.update_selected.new.system (g.D.System.may_fail c.args.system.now) c.args.asked.root.now c.args.asked.usr c.args.asked.skip
    seen (g.D.Store.may_leave c.args.system.now) less.left_out less.are
    (c.in_ok-status.ensures.any_moment (without less.left_out c.args.asked.root.now seen) less.selected tells)

pub returns-in_err-status-clause-hands_on : goal.returns-in_err-status-clause-hands_on
returns-in_err-status-clause-hands_on g c = hands_on_twice _ _ _ _ _ _ c.in_ok-say.ensures.took.unfailed c.in_ok-say.ensures.hands_on c.in_err-status.ensures.hands_on

pub returns-clause-hands_on : goal.returns-clause-hands_on
returns-clause-hands_on g c = hands_on_twice _ _ _ _ _ _ c.in_ok-say.ensures.took.unfailed c.in_ok-say.ensures.hands_on c.in_ok-status.ensures.hands_on

pub returns-in_err-readable-clause-follows : goal.returns-in_err-readable-clause-follows
returns-in_err-readable-clause-follows g c = λ tells.
    let F = files_by g.D.Store.seen g.D.System.may_fail g.D.Store.may_leave g.D.Store.failures in
    let T = told_by g.E.Sink.taken g.E.Sink.failures in
    let reads = c.in_err-readable.ensures.follows tells in (
      reads.0,
      update_unread (g.D.System.reads c.args.system.now) c.args.asked.root.now c.args.asked.usr c.args.asked.strict c.args.asked.verbose c.args.asked.skip reads.0 c.in_err-readable.field-0.0
          (F c.args.system.now) (T c.args.err.now) c.from_residual.result reads.1 c.from_residual.ensures.1,
    )

pub returns-in_err-say-clause-follows : goal.returns-in_err-say-clause-follows
returns-in_err-say-clause-follows g c = λ tells.
    let F = files_by g.D.Store.seen g.D.System.may_fail g.D.Store.may_leave g.D.Store.failures in
    let T = told_by g.E.Sink.taken g.E.Sink.failures in
    let reads = c.in_ok-readable.ensures.follows tells in
    let text = c.deref.ensures.value ∙ reads.1.1.is_said in (
      reads.0,
      update_unsaid (g.D.System.reads c.args.system.now) c.args.asked.root.now c.args.asked.usr c.args.asked.strict c.args.asked.verbose c.args.asked.skip reads.0 reads.1.0 reads.1.2 c.in_err-say.field-0.0
          (F c.args.system.now) (T c.args.err.now) (T c.say.new.err) c.from_residual-in_err-say.result
          (c.in_err-say.ensures.refused.0, subst (λ t. WasCut t (T c.args.err.now) (T c.say.new.err)) text c.in_err-say.ensures.refused.1) c.from_residual-in_err-say.ensures.1,
    )

pub returns-in_err-status-clause-follows : goal.returns-in_err-status-clause-follows
returns-in_err-status-clause-follows g c = λ tells.
    let F = files_by g.D.Store.seen g.D.System.may_fail g.D.Store.may_leave g.D.Store.failures in
    let T = told_by g.E.Sink.taken g.E.Sink.failures in
    let w = g.D.System.reads c.args.system.now in
    let reads = c.in_ok-readable.ensures.follows tells in
    let x = reads.1.0 in
    let text = c.deref.ensures.value ∙ reads.1.1.is_said in
    let puts = c.in_err-status.ensures.follows tells x.etc x.usr (status_less c.args.asked.strict x.left.files) reads.1.1.of in (
      reads.0,
      update_ended w c.args.asked.root.now c.args.asked.usr c.args.asked.strict c.args.asked.verbose c.args.asked.skip reads.0 x reads.1.2
          (F c.args.system.now) (F c.update_selected.new.system) (T c.args.err.now) (T c.say.new.err) (T c.update_selected.new.err) c.from_residual-in_err-status.result
          (subst (λ t. HasTaken t (T c.args.err.now) (T c.say.new.err)) text c.in_ok-say.ensures.took)
          (given_puts w (put_readable c.args.asked.root.now c.args.asked.usr c.args.asked.strict c.args.asked.verbose x) (F c.args.system.now) (F c.update_selected.new.system) (T c.say.new.err) (T c.update_selected.new.err)
          c.in_err-status.field-0.0 c.from_residual-in_err-status.result c.from_residual-in_err-status.ensures.1 puts),
    )

pub returns-clause-follows : goal.returns-clause-follows
returns-clause-follows g c = λ tells.
    let F = files_by g.D.Store.seen g.D.System.may_fail g.D.Store.may_leave g.D.Store.failures in
    let T = told_by g.E.Sink.taken g.E.Sink.failures in
    let w = g.D.System.reads c.args.system.now in
    let root = c.args.asked.root.now in
    let reads = c.in_ok-readable.ensures.follows tells in
    let x = reads.1.0 in
    let text = c.deref.ensures.value ∙ reads.1.1.is_said in
    let lines = subst (AreTold root x.left.files) (sym (c.deref-2.ensures.value ∙ reads.1.1.is_said)) reads.1.1.told in
    let puts = c.in_ok-status.ensures.follows tells x.etc x.usr (status_less c.args.asked.strict x.left.files) reads.1.1.of in (
      reads.0,
      update_ended w root c.args.asked.usr c.args.asked.strict c.args.asked.verbose c.args.asked.skip reads.0 x reads.1.2
          (F c.args.system.now) (F c.update_selected.new.system) (T c.args.err.now) (T c.say.new.err) (T c.update_selected.new.err) (Ok c.status_less.result)
          (subst (λ t. HasTaken t (T c.args.err.now) (T c.say.new.err)) text c.in_ok-say.ensures.took)
          (subst (λ n. PutsEnd w (put_readable root c.args.asked.usr c.args.asked.strict c.args.asked.verbose x) (F c.args.system.now) (F c.update_selected.new.system) (T c.say.new.err) (T c.update_selected.new.err) (Ok n))
          (sym (c.status_less.ensures.is root x.left.files lines)) puts),
    )

pub returns-in_err-readable-clause-any_crash : goal.returns-in_err-readable-clause-any_crash
returns-in_err-readable-clause-any_crash g c = λ tells. (
  [],
  leaves_old g.D.Store.moment g.D.Store.left_since c.args.system.now _ (λ p v l. inl (inl (g.met.D.Store.only_now c.args.system.now p v l))),
)

pub returns-in_err-say-clause-any_crash : goal.returns-in_err-say-clause-any_crash
returns-in_err-say-clause-any_crash g c = λ tells. (
  [],
  leaves_old g.D.Store.moment g.D.Store.left_since c.args.system.now _ (λ p v l. inl (inl (g.met.D.Store.only_now c.args.system.now p v l))),
)

pub returns-in_err-status-clause-any_crash : goal.returns-in_err-status-clause-any_crash
returns-in_err-status-clause-any_crash g c = λ tells.
    let w = g.D.System.reads c.args.system.now in
    let root = c.args.asked.root.now in
    let reads = c.in_ok-readable.ensures.follows tells in
    let x = reads.1.0 in (
      reads.0,
      leaves_then g.D.Store.moment g.D.Store.left_since c.args.system.now c.update_selected.new.system w (g.D.Store.seen c.args.system.now) (g.D.Store.may_leave c.args.system.now)
          (put_readable root c.args.asked.usr c.args.asked.strict c.args.asked.verbose x) (update_plan root c.args.asked.usr c.args.asked.strict c.args.asked.verbose c.args.asked.skip reads.0)
          (reads.1.2 (put_readable root c.args.asked.usr c.args.asked.strict c.args.asked.verbose)) (c.in_err-status.ensures.any_crash tells x.etc x.usr (status_less c.args.asked.strict x.left.files) reads.1.1.of),
    )

pub returns-clause-any_crash : goal.returns-clause-any_crash
returns-clause-any_crash g c = λ tells.
    let w = g.D.System.reads c.args.system.now in
    let root = c.args.asked.root.now in
    let reads = c.in_ok-readable.ensures.follows tells in
    let x = reads.1.0 in (
      reads.0,
      leaves_then g.D.Store.moment g.D.Store.left_since c.args.system.now c.update_selected.new.system w (g.D.Store.seen c.args.system.now) (g.D.Store.may_leave c.args.system.now)
          (put_readable root c.args.asked.usr c.args.asked.strict c.args.asked.verbose x) (update_plan root c.args.asked.usr c.args.asked.strict c.args.asked.verbose c.args.asked.skip reads.0)
          (reads.1.2 (put_readable root c.args.asked.usr c.args.asked.strict c.args.asked.verbose)) (c.in_ok-status.ensures.any_crash tells x.etc x.usr (status_less c.args.asked.strict x.left.files) reads.1.1.of),
    )
