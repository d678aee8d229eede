use Rattle.std.proofs.Common.{◌≡◌, ◌∙◌, ◌++◌, ap, refl, append_assoc, map, option_map, string_bytes, ℕ, inl, inr, ⊎_elim}
use Rattle.hwdb_compile.specs.Views.{fault_of}
use Rattle.hwdb_spec_commands.specs.Progress.{progress_text, update_text}
use Rattle.hwdb_spec.specs.Texts.{faults_text, status_of}
use Rattle.hwdb_spec_commands.specs.Done.{OldOrWritten}
use Rattle.hwdb_spec_commands.specs.Runs.{files_by, told_by}
use Rattle.hwdb_spec.specs.Store.{OldOrNew, database_name, path_in}
use Rattle.hwdb_plan.specs.Put.{put_plan}
use Rattle.hwdb_spec.specs.Folders.{faults_of_files}
use Rattle.hwdb_spec.specs.Lemmas.Calls.{each_value}
use Rattle.hwdb_tool.proofs.UpdatePlanLemmas.{no_memory, put_ended, uncompiled, leaves_put}
use Rattle.hwdb_spec_commands.specs.Summary.{depth}
use Rattle.hwdb_tool.proofs.MomentLemmas.{leaves_more}
use Rattle.hwdb_tool.proofs.update_command.update_files.Goals as goal

pub returns-clause-any_moment : goal.returns-clause-any_moment
returns-clause-any_moment g c = λ tells etc usr of.
    let seen = g.S.Store.seen c.args.store.now in
    let left = g.S.Store.may_leave c.args.store.now in
    let database = c.in_ok-compiled.compiled.database.items in
    leaves_more g.S.Store.moment g.S.Store.left_since c.args.store.now c.put_in_place.new.store
    (OldOrNew c.args.folder.now database seen left) (OldOrWritten etc usr c.args.folder.now seen left)
    (λ p v now. ⊎_elim (λ old. inl old) (λ other. ⊎_elim
    (λ new. inr (inl (database, c.in_ok-compiled.ensures.database etc usr of, c.in_ok-compiled.ensures.checked etc usr of, new.0, new.1)))
    (λ part. inr (inr part)) other) now)
    (c.put_in_place.ensures.any_moment tells)

pub returns-in_err-compiled-clause-follows : goal.returns-in_err-compiled-clause-follows
returns-in_err-compiled-clause-follows g c = λ tells w less shown is etc usr of.
    let F = files_by g.S.Store.seen g.S.System.may_fail g.S.Store.may_leave g.S.Store.failures in
    let T = told_by g.E.Sink.taken g.E.Sink.failures in
    uncompiled w (path_in c.args.folder.now database_name) less c.args.loss.now etc usr (option_map (λ l. map string_bytes l.now) c.args.listed) (status_of c.args.strict) c.args.folder.now
    c.in_err-compiled.field-0.0 (F c.args.store.now) (T c.args.err.now) c.from_residual.result shown c.from_residual.ensures.1 (c.in_err-compiled.ensures.refused etc usr of) is

pub returns-in_err-told-clause-follows : goal.returns-in_err-told-clause-follows
returns-in_err-told-clause-follows g c = λ tells w less shown is etc usr of.
    let F = files_by g.S.Store.seen g.S.System.may_fail g.S.Store.may_leave g.S.Store.failures in
    let T = told_by g.E.Sink.taken g.E.Sink.failures in
    let names = option_map (λ l. map string_bytes l.now) c.args.listed in
    no_memory w (path_in c.args.folder.now database_name) less (put_plan c.args.loss.now etc usr names (λ faults. less (status_of c.args.strict faults)) c.args.folder.now)
    (F c.args.store.now) (T c.args.err.now) c.from_residual-in_err-told.result shown c.from_residual-in_err-told.ensures.1 is

pub returns-in_err-said-clause-follows : goal.returns-in_err-said-clause-follows
returns-in_err-said-clause-follows g c = λ tells w less shown is etc usr of.
    let F = files_by g.S.Store.seen g.S.System.may_fail g.S.Store.may_leave g.S.Store.failures in
    let T = told_by g.E.Sink.taken g.E.Sink.failures in
    let names = option_map (λ l. map string_bytes l.now) c.args.listed in
    no_memory w (path_in c.args.folder.now database_name) less (put_plan c.args.loss.now etc usr names (λ faults. less (status_of c.args.strict faults)) c.args.folder.now)
    (F c.args.store.now) (T c.args.err.now) c.from_residual-in_err-said.result shown c.from_residual-in_err-said.ensures.1 is

pub returns-in_err-extend_from_slice-clause-follows : goal.returns-in_err-extend_from_slice-clause-follows
returns-in_err-extend_from_slice-clause-follows g c = λ tells w less shown is etc usr of.
    let F = files_by g.S.Store.seen g.S.System.may_fail g.S.Store.may_leave g.S.Store.failures in
    let T = told_by g.E.Sink.taken g.E.Sink.failures in
    let names = option_map (λ l. map string_bytes l.now) c.args.listed in
    no_memory w (path_in c.args.folder.now database_name) less (put_plan c.args.loss.now etc usr names (λ faults. less (status_of c.args.strict faults)) c.args.folder.now)
    (F c.args.store.now) (T c.args.err.now) c.from_residual-in_err-extend_from_slice.result shown c.from_residual-in_err-extend_from_slice.ensures.1 is

pub returns-clause-follows : goal.returns-clause-follows
returns-clause-follows g c = λ tells w less shown is etc usr of.
    let F = files_by g.S.Store.seen g.S.System.may_fail g.S.Store.may_leave g.S.Store.failures in
    let T = told_by g.E.Sink.taken g.E.Sink.failures in
    let names = option_map (λ l. map string_bytes l.now) c.args.listed in
    let compiled = c.in_ok-compiled.compiled in
    let loss = c.args.loss.now in
    let faults = faults_text (map fault_of compiled.faults.items) in
    let made = c.in_ok-compiled.ensures.checked etc usr of in
    let deep = depth made.0 in
    let text : c.deref-2.result.now ++ faults ≡ loss ++ update_text names etc usr deep =
    ap (λ l. l ++ faults) (c.deref-2.ensures.value ∙ c.in_ok-extend_from_slice.ensures.items ∙ ap (λ l. l ++ c.deref.result.now) c.in_ok-said.ensures.items)
    ∙ append_assoc loss c.deref.result.now faults
    ∙ ap (λ l. loss ++ (l ++ faults))
    (c.deref.ensures.value ∙ c.in_ok-told.ensures etc usr of made)
    ∙ ap (λ fs. loss ++ (progress_text names etc usr deep ++ faults_text fs)) (c.in_ok-compiled.ensures.faults etc usr of) in
    let status = each_value _ (λ (n : ℕ). n ≡ status_of c.args.strict (faults_of_files etc usr)) c.put_in_place.result
    (λ n same. same ∙ ap (status_of c.args.strict) (c.in_ok-compiled.ensures.faults etc usr of)) c.put_in_place.ensures.status in
    put_ended w (path_in c.args.folder.now database_name) less loss etc usr names (status_of c.args.strict) c.args.folder.now F T c.args.store.now c.put_in_place.new.store c.args.err.now c.put_in_place.new.err
    compiled.database.items (c.deref-2.result.now ++ faults) made.0
    (record { accepted = c.in_ok-compiled.ensures.accepted etc usr of; written = c.in_ok-compiled.ensures.database etc usr of; sound = c.in_ok-compiled.ensures.checked etc usr of; within = c.in_ok-compiled.ensures.within })
    made.1 text c.put_in_place.result shown refl c.put_in_place.ensures.told (c.put_in_place.ensures.placed tells) status c.put_in_place.ensures.refusals c.put_in_place.ensures.unreplaced
    (c.put_in_place.ensures.seen tells) (c.put_in_place.ensures.left tells) c.put_in_place.ensures.cut_short c.put_in_place.ensures.untouched is

pub returns-clause-any_crash : goal.returns-clause-any_crash
returns-clause-any_crash g c = λ tells w less etc usr of.
    let compiled = c.in_ok-compiled.compiled in
    let made = c.in_ok-compiled.ensures.checked etc usr of in
    leaves_put g.S.Store.moment g.S.Store.left_since c.args.store.now c.put_in_place.new.store w (g.S.Store.seen c.args.store.now) (g.S.Store.may_leave c.args.store.now) c.args.loss.now etc usr
    (option_map (λ l. map string_bytes l.now) c.args.listed) (λ faults. less (status_of c.args.strict faults)) c.args.folder.now compiled.database.items made.0
    (record { accepted = c.in_ok-compiled.ensures.accepted etc usr of; written = c.in_ok-compiled.ensures.database etc usr of; sound = c.in_ok-compiled.ensures.checked etc usr of; within = c.in_ok-compiled.ensures.within })
    made.1 (c.put_in_place.ensures.any_moment tells)
