use Rattle.std.proofs.Common.{List, ℕ, inl, inr, ◌∙◌, ap, refl, Err, Ok, [], subst, sym, map, string_bytes}
use Rattle.hwdb_spec_commands.specs.Runs.{AreKept, files_by, told_by}
use Rattle.hwdb_spec_commands.specs.declared.job.WordsFault.TheVariants as words_fault
use Rattle.hwdb_spec_commands.specs.Refusals.{Refused}
use Rattle.hwdb_tool.proofs.UsageLemmas.{usage_line}
use Rattle.hwdb_spec.specs.Store.{LeavesOnly}
use Rattle.hwdb_spec_commands.specs.SysfsAnswers.{sight_by}
use Rattle.hwdb_spec.specs.declared.errors.ToolError.TheVariants.{Memory}
use Rattle.hwdb_spec_commands.specs.declared.refusals.Refusal.TheVariants.{Plain}
use Rattle.hwdb_spec_program.specs.Program.{OldOrAskedFor, OldOrDone}
use Rattle.hwdb_tool.proofs.MomentLemmas.{leaves_more, leaves_old}
use Rattle.hwdb_tool.proofs.FlushLemmas.{handed_on, handed_on_twice}
use Rattle.hwdb_tool.proofs.ReportLemmas.{help_is_told, refused_reported, status_is, usage_is_told}
use Rattle.hwdb_plan.specs.Ended.{outs}
use Rattle.hwdb_spec_program.specs.ProgramPlan.{OldOrAsked, ShowsPlan, UpdatesIfAsked, error_status, shown_plan, update_of}
use Rattle.clap.specs.Simple.{subcommand_of}
use Rattle.hwdb_spec_commands.specs.CommandLine.{hwdb_app}
use Rattle.hwdb_tool.proofs.UpdatingLemmas.{crash_asked, crash_before, kept_so, leaves_kept, updates_asked}
use Rattle.hwdb_tool.proofs.dispatch.program.Goals as goal

pub returns-in-Ok-run_job-clause-any_moment : goal.returns-in-Ok-run_job-clause-any_moment
returns-in-Ok-run_job-clause-any_moment g c = λ tells.
    let words = map string_bytes c.args.words.now in
    let seen = g.D.Store.seen c.enter_root.new.system in
    let left = g.D.Store.may_leave c.enter_root.new.system in
    let fails = g.D.System.may_fail c.enter_root.new.system in
    subst (λ (s : g.row.D.Denot). LeavesOnly g.D.Store.moment g.D.Store.left_since s c.run_job.new.system (OldOrAskedFor (g.D.System.may_fail s) words (g.D.Store.seen s) (g.D.Store.may_leave s))) (c.enter_root.ensures.same tells)
    (leaves_more g.D.Store.moment g.D.Store.left_since c.enter_root.new.system c.run_job.new.system
    (OldOrDone fails c.in-Ok.job seen left) (OldOrAskedFor fails words seen left)
    (λ p v now. inr (c.in-Ok.job, c.in-Ok.ensures.job, c.in-Ok.ensures.whole, now)) (c.run_job.ensures.any_moment tells))

pub returns-in-Ok-enter_root-clause-any_moment : goal.returns-in-Ok-enter_root-clause-any_moment
returns-in-Ok-enter_root-clause-any_moment g c = λ tells.
    let words = map string_bytes c.args.words.now in
    let seen = g.D.Store.seen c.enter_root.new.system in
    let left = g.D.Store.may_leave c.enter_root.new.system in
    let fails = g.D.System.may_fail c.enter_root.new.system in
    subst (λ (s : g.row.D.Denot). LeavesOnly g.D.Store.moment g.D.Store.left_since s c.run_job.new.system (OldOrAskedFor (g.D.System.may_fail s) words (g.D.Store.seen s) (g.D.Store.may_leave s))) (c.enter_root.ensures.same tells)
    (leaves_more g.D.Store.moment g.D.Store.left_since c.enter_root.new.system c.run_job.new.system
    (OldOrDone fails c.in-Ok.job seen left) (OldOrAskedFor fails words seen left)
    (λ p v now. inr (c.in-Ok.job, c.in-Ok.ensures.job, c.in-Ok.ensures.whole, now)) (c.run_job.ensures.any_moment tells))

pub returns-in-Ok-clause-any_moment : goal.returns-in-Ok-clause-any_moment
returns-in-Ok-clause-any_moment g c = λ tells.
    let before = c.args.system.now in
    let outcomes = OldOrAskedFor (g.D.System.may_fail before) (map string_bytes c.args.words.now) (g.D.Store.seen before) (g.D.Store.may_leave before) in
    subst (λ (s : g.row.D.Denot). LeavesOnly g.D.Store.moment g.D.Store.left_since before s outcomes) (sym (c.enter_root.ensures.same tells))
    (leaves_old g.D.Store.moment g.D.Store.left_since before outcomes (λ p v l. inl (g.met.D.Store.only_now before p v l)))

pub returns-in-Ok-run_job-clause-err_handed_on : goal.returns-in-Ok-run_job-clause-err_handed_on
returns-in-Ok-run_job-clause-err_handed_on g c = handed_on _ _ _ _ c.run_job.ensures.err_hands_on

pub returns-in-Ok-enter_root-clause-err_handed_on : goal.returns-in-Ok-enter_root-clause-err_handed_on
returns-in-Ok-enter_root-clause-err_handed_on g c = handed_on_twice _ _ _ _ _ _ c.run_job.ensures.err_hands_on c.refuse_job.ensures.hands_on

pub returns-in-Ok-clause-err_handed_on : goal.returns-in-Ok-clause-err_handed_on
returns-in-Ok-clause-err_handed_on g c = handed_on _ _ _ _ c.refuse_for.ensures.hands_on

pub returns-in-Err-Usage-clause-err_handed_on : goal.returns-in-Err-Usage-clause-err_handed_on
returns-in-Err-Usage-clause-err_handed_on g c = handed_on _ _ _ _ c.write_text-in-Err-Usage.ensures.hands_on

pub returns-clause-err_handed_on : goal.returns-clause-err_handed_on
returns-clause-err_handed_on g c = handed_on _ _ _ _ c.refuse_memory.ensures.hands_on

pub returns-in-Ok-run_job-clause-follows : goal.returns-in-Ok-run_job-clause-follows
returns-in-Ok-run_job-clause-follows g c = λ tells faultless.
    let words = map string_bytes c.args.words.now in
    let F = files_by g.D.Store.seen g.D.System.may_fail g.D.Store.may_leave g.D.Store.failures in
    let I = told_by g.I.Source.left g.I.Source.failures in
    let O = told_by g.O.Sink.taken g.O.Sink.failures in
    let E = told_by g.E.Sink.taken g.E.Sink.failures in
    let before = outs (E c.args.err.now) (O c.args.out.now) in
    let now = outs (E c.run_job.new.err) (O c.run_job.new.out) in
    inl record {
      result = Ok c.in-Ok-run_job.status;
      err_then = E c.run_job.new.err;
      shows = subst (λ (s : g.row.D.Denot). ShowsPlan (λ a. shown_plan c.args.at_terminal a words) (g.D.System.reads s) (sight_by g.D.DeviceFiles.answers s) (I c.args.input.now) (I c.run_job.new.input) before now (Ok c.in-Ok-run_job.status))
          (c.enter_root.ensures.same tells) (c.in-Ok-run_job.ensures.follows tells words c.in-Ok.ensures.job);
      updates = subst (λ (s : g.row.D.Denot). UpdatesIfAsked (update_of words) (g.D.System.reads s) (F s) (F c.run_job.new.system) before now (Ok c.in-Ok-run_job.status)) (c.enter_root.ensures.same tells)
          (updates_asked words c.in-Ok.job c.in-Ok.ensures.job (g.D.System.reads c.enter_root.new.system) (F c.enter_root.new.system) (F c.run_job.new.system) before now (Ok c.in-Ok-run_job.status) (c.in-Ok-run_job.ensures.updates tells)
          (λ update. ap O (c.run_job.ensures.update update)) (λ none. kept_so F c.enter_root.new.system c.run_job.new.system (c.run_job.ensures.kept none)));
      reported = (refl, refl);
    }

pub returns-in-Ok-enter_root-clause-follows : goal.returns-in-Ok-enter_root-clause-follows
returns-in-Ok-enter_root-clause-follows g c = λ tells faultless.
    let words = map string_bytes c.args.words.now in
    let F = files_by g.D.Store.seen g.D.System.may_fail g.D.Store.may_leave g.D.Store.failures in
    let I = told_by g.I.Source.left g.I.Source.failures in
    let O = told_by g.O.Sink.taken g.O.Sink.failures in
    let E = told_by g.E.Sink.taken g.E.Sink.failures in
    let before = outs (E c.args.err.now) (O c.args.out.now) in
    let now = outs (E c.run_job.new.err) (O c.run_job.new.out) in
    let r = c.in-Err-run_job.refusal in
    inl record {
      result = Err r;
      err_then = E c.run_job.new.err;
      shows = subst (λ (s : g.row.D.Denot). ShowsPlan (λ a. shown_plan c.args.at_terminal a words) (g.D.System.reads s) (sight_by g.D.DeviceFiles.answers s) (I c.args.input.now) (I c.run_job.new.input) before now (Err r))
          (c.enter_root.ensures.same tells) (c.in-Err-run_job.ensures.follows tells words c.in-Ok.ensures.job);
      updates = subst (λ (s : g.row.D.Denot). UpdatesIfAsked (update_of words) (g.D.System.reads s) (F s) (F c.run_job.new.system) before now (Err r)) (c.enter_root.ensures.same tells)
          (updates_asked words c.in-Ok.job c.in-Ok.ensures.job (g.D.System.reads c.enter_root.new.system) (F c.enter_root.new.system) (F c.run_job.new.system) before now (Err r) (c.in-Err-run_job.ensures.updates tells)
          (λ update. ap O (c.run_job.ensures.update update)) (λ none. kept_so F c.enter_root.new.system c.run_job.new.system (c.run_job.ensures.kept none)));
      reported = refused_reported (g.O.Outlet.reader_gone c.run_job.new.out) (error_status (subcommand_of hwdb_app words)) c.refused_status.result r c.refuse_job.result (E c.run_job.new.err) (E c.refuse_job.new.err)
          (c.refused_status.ensures.is ∙ status_is words c.in-Ok.job c.in-Ok.ensures.job) c.refused_status.ensures.some c.refuse_job.ensures.status c.refuse_job.ensures.said c.refuse_job.ensures.gone
          (λ none. ap E (c.refuse_job.ensures.quiet none)) c.refuse_job.ensures.line;
    }

pub returns-in-Ok-clause-follows : goal.returns-in-Ok-clause-follows
returns-in-Ok-clause-follows g c = λ tells faultless.
    let F = files_by g.D.Store.seen g.D.System.may_fail g.D.Store.may_leave g.D.Store.failures in
    inr (inr record {
      job = c.in-Ok.job;
      asked = c.in-Ok.ensures.job;
      faultless = c.in-Ok.ensures.whole;
      refusal = c.in-Err.refusal;
      unread = c.in-Err.ensures.refused;
      reason = c.in-Err.ensures.reason;
      kept = subst (λ (s : g.row.D.Denot). AreKept (F c.args.system.now) (F s)) (sym (c.enter_root.ensures.same tells)) (record { same = λ p. refl; no_more = λ p v l. l });
      said = record { said = c.in-Err.refusal; of = inl refl; words = c.refuse_for.ensures.line.0; one_line = c.refuse_for.ensures.line.1; line = c.refuse_for.ensures.line.2 };
      out = refl;
      says = c.refused_status-in-Err.ensures.is;
    })

pub returns-clause-follows : goal.returns-clause-follows
returns-clause-follows g c = λ tells faultless. inr (inl record {
  said = record { said = Plain Memory; of = inl refl; words = []; one_line = refl; line = c.refuse_memory.ensures.line };
  out = refl;
  kept = record { same = λ p. refl; no_more = λ p v l. l };
  says = refl;
})

pub returns-in-Err-Usage-clause-follows : goal.returns-in-Err-Usage-clause-follows
returns-in-Err-Usage-clause-follows g c = λ tells faultless.
    absurd (usage_is_told (map string_bytes c.args.words.now) c.in-Err-Usage.text faultless (rw c.in-Err-Usage.field-0-is at c.in-Err-Usage.ensures.told))

pub returns-in-Err-Help-clause-follows : goal.returns-in-Err-Help-clause-follows
returns-in-Err-Help-clause-follows g c = λ tells faultless.
    absurd (help_is_told (map string_bytes c.args.words.now) c.in-Err-Help.text faultless (rw c.in-Err-Help.field-0-is at c.in-Err-Help.ensures.told))

pub returns-in-Ok-write_text-clause-follows : goal.returns-in-Ok-write_text-clause-follows
returns-in-Ok-write_text-clause-follows g c = λ tells faultless.
    absurd (help_is_told (map string_bytes c.args.words.now) c.in-Err-Help.text faultless (rw c.in-Err-Help.field-0-is at c.in-Err-Help.ensures.told))

pub returns-in-Ok-run_job-clause-any_crash : goal.returns-in-Ok-run_job-clause-any_crash
returns-in-Ok-run_job-clause-any_crash g c = λ tells.
    let words = map string_bytes c.args.words.now in
    let old = c.enter_root.new.system in
    let new = c.run_job.new.system in
    subst (λ (s : g.row.D.Denot). (causes : List (List ℕ)) × LeavesOnly g.D.Store.moment g.D.Store.left_since s new (OldOrAsked (update_of words) (g.D.System.reads s) causes (g.D.Store.seen s) (g.D.Store.may_leave s)))
    (c.enter_root.ensures.same tells)
    (crash_asked words c.in-Ok.job c.in-Ok.ensures.job g.D.Store.moment g.D.Store.left_since old new (g.D.System.reads old) (g.D.Store.seen old) (g.D.Store.may_leave old) (c.run_job.ensures.any_crash tells)
    (λ none. leaves_kept g.D.Store.moment g.D.Store.left_since old new (g.D.Store.may_leave old) (g.met.D.Store.only_now old) (c.run_job.ensures.kept none)))

pub returns-in-Ok-enter_root-clause-any_crash : goal.returns-in-Ok-enter_root-clause-any_crash
returns-in-Ok-enter_root-clause-any_crash g c = λ tells.
    let words = map string_bytes c.args.words.now in
    let old = c.enter_root.new.system in
    let new = c.run_job.new.system in
    subst (λ (s : g.row.D.Denot). (causes : List (List ℕ)) × LeavesOnly g.D.Store.moment g.D.Store.left_since s new (OldOrAsked (update_of words) (g.D.System.reads s) causes (g.D.Store.seen s) (g.D.Store.may_leave s)))
    (c.enter_root.ensures.same tells)
    (crash_asked words c.in-Ok.job c.in-Ok.ensures.job g.D.Store.moment g.D.Store.left_since old new (g.D.System.reads old) (g.D.Store.seen old) (g.D.Store.may_leave old) (c.run_job.ensures.any_crash tells)
    (λ none. leaves_kept g.D.Store.moment g.D.Store.left_since old new (g.D.Store.may_leave old) (g.met.D.Store.only_now old) (c.run_job.ensures.kept none)))

pub returns-in-Ok-clause-any_crash : goal.returns-in-Ok-clause-any_crash
returns-in-Ok-clause-any_crash g c = λ tells.
    let words = map string_bytes c.args.words.now in
    let old = c.args.system.now in
    subst (λ (s : g.row.D.Denot). (causes : List (List ℕ)) × LeavesOnly g.D.Store.moment g.D.Store.left_since old s (OldOrAsked (update_of words) (g.D.System.reads old) causes (g.D.Store.seen old) (g.D.Store.may_leave old)))
    (sym (c.enter_root.ensures.same tells))
    (crash_before (update_of words) g.D.Store.moment g.D.Store.left_since old (g.D.System.reads old) (g.D.Store.seen old) (g.D.Store.may_leave old) (g.met.D.Store.only_now old))

pub returns-in-Err-Help-clause-any_crash : goal.returns-in-Err-Help-clause-any_crash
returns-in-Err-Help-clause-any_crash g c = λ tells.
    let old = c.args.system.now in
    crash_before (update_of (map string_bytes c.args.words.now)) g.D.Store.moment g.D.Store.left_since old (g.D.System.reads old) (g.D.Store.seen old) (g.D.Store.may_leave old) (g.met.D.Store.only_now old)

pub returns-in-Ok-write_text-clause-any_crash : goal.returns-in-Ok-write_text-clause-any_crash
returns-in-Ok-write_text-clause-any_crash g c = λ tells.
    let old = c.args.system.now in
    crash_before (update_of (map string_bytes c.args.words.now)) g.D.Store.moment g.D.Store.left_since old (g.D.System.reads old) (g.D.Store.seen old) (g.D.Store.may_leave old) (g.met.D.Store.only_now old)

pub returns-in-Err-Usage-clause-any_crash : goal.returns-in-Err-Usage-clause-any_crash
returns-in-Err-Usage-clause-any_crash g c = λ tells.
    let old = c.args.system.now in
    crash_before (update_of (map string_bytes c.args.words.now)) g.D.Store.moment g.D.Store.left_since old (g.D.System.reads old) (g.D.Store.seen old) (g.D.Store.may_leave old) (g.met.D.Store.only_now old)

pub returns-clause-any_crash : goal.returns-clause-any_crash
returns-clause-any_crash g c = λ tells.
    let old = c.args.system.now in
    crash_before (update_of (map string_bytes c.args.words.now)) g.D.Store.moment g.D.Store.left_since old (g.D.System.reads old) (g.D.Store.seen old) (g.D.Store.may_leave old) (g.met.D.Store.only_now old)

pub returns-clause-untold : goal.returns-clause-untold
returns-clause-untold g c = λ tells faulty is. record {
  fault = words_fault.Memory;
  of = tt;
  told = (record { said = Plain Memory; of = inl refl; words = []; one_line = refl; line = c.refuse_memory.ensures.line }, refl);
  kept = record { same = λ p. refl; no_more = λ p v l. l };
  says = refl;
}

pub returns-in-Err-Usage-clause-untold : goal.returns-in-Err-Usage-clause-untold
returns-in-Err-Usage-clause-untold g c = λ tells faulty is.
    let before = told_by g.E.Sink.taken g.E.Sink.failures c.args.err.now in
    let now = told_by g.E.Sink.taken g.E.Sink.failures c.write_text-in-Err-Usage.new.sink in
    let line = usage_line c.as_bytes-in-Err-Usage.result.now c.write_text-in-Err-Usage.result before.bytes now.bytes before.failures now.failures
    c.write_text-in-Err-Usage.ensures.took c.write_text-in-Err-Usage.ensures.cut_short in
    record {
      fault = words_fault.Usage c.in-Err-Usage.text;
      of = rw c.in-Err-Usage.field-0-is at c.in-Err-Usage.ensures.told;
      told = (subst (λ t. Refused t before.bytes now.bytes before.failures now.failures) c.as_bytes-in-Err-Usage.ensures.value line, refl);
      kept = record { same = λ p. refl; no_more = λ p v l. l };
      says = refl;
    }
