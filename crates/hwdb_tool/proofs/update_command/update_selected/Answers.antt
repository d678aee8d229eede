use Rattle.std.proofs.Common.{◌≡◌, ◌∙◌, ap, length, map, option_map, string_bytes, refl, subst, sym, Err, List, Ok, ℕ}
use Rattle.hwdb_spec_commands.specs.Progress.{given_where}
use Rattle.hwdb_text.specs.Views.{choice_of}
use Rattle.hwdb_spec.specs.declared.errors.ToolError.TheVariants.{Memory}
use Rattle.hwdb_spec.specs.Folders.{chosen_of}
use Rattle.hwdb_spec_commands.specs.Runs.{files_by, told_by}
use Rattle.hwdb_spec_commands.specs.Status.{is_bare}
use Rattle.hwdb_spec.specs.Store.{database_name, path_in, LeavesOnly}
use Rattle.hwdb_spec.specs.System.{database_folder}
use Rattle.hwdb_tool.specs.Internal.{AreReadOf}
use Rattle.hwdb_spec_commands.specs.Refusals.{IsOfUpdate}
use Rattle.hwdb_spec_commands.specs.declared.refusals.Refusal.TheVariants.{Plain}
use Rattle.hwdb_tool.proofs.FolderLemmas.{are_read}
use Rattle.hwdb_tool.proofs.MomentLemmas.{leaves_old_or_updated}
use Rattle.hwdb_tool.proofs.StatusLemmas.{bare_files}
use Rattle.hwdb_compile.specs.Views.{AreChosenOf}
use Rattle.hwdb_plan.specs.Put.{put_plan}
use Rattle.hwdb_plan.specs.Putting.{PutsEnd, OldOrPut}
use Rattle.hwdb_plan.specs.Update.{loss_of, put_files}
use Rattle.hwdb_spec.specs.Folders.{FaultIn}
use Rattle.hwdb_spec.specs.Texts.{status_of}
use Rattle.hwdb_spec_commands.specs.Progress.{listing}
use Rattle.hwdb_tool.specs.Emptying.{status_by}
use Rattle.hwdb_tool.proofs.UpdatePlanLemmas.{files_chosen, puts_early, puts_then, shown_error, unput, leaves_then}
use Rattle.hwdb_tool.proofs.update_command.update_selected.Goals as goal

pub returns-in-Ok-clause-any_moment : goal.returns-in-Ok-clause-any_moment
returns-in-Ok-clause-any_moment g c = λ files selected tells.
    let root = c.args.asked.root.now in
    let seen = g.D.Store.seen c.args.system.now in
    let chosen = c.args.selection.now.chosen.items in
    let texts = c.args.selection.now.texts.items in
    let listed = map string_bytes c.args.selection.now.listed.items in
    let folder : c.as_str-2.result.now ≡ database_folder c.args.asked.usr root = c.as_str-2.ensures.value ∙ c.in_ok-folder.ensures in
    let read : AreReadOf root files listed c.in_ok-files.files.items =
    are_read root files listed (map choice_of chosen) (map (λ t. t.items) texts) c.in_ok-files.files.items selected
    (c.in_ok-files.ensures.choices ∙ ap (map choice_of) c.deref.ensures.value) (c.in_ok-files.ensures.bytes ∙ ap (map (λ t. t.items)) c.deref-2.ensures.value) in
    let given : AreReadOf root files listed c.deref-3.result.now = subst (AreReadOf root files listed) (sym c.deref-3.ensures.value) read in
    leaves_old_or_updated g.D.Store.moment g.D.Store.left_since c.args.system.now c.update_files.new.store root c.as_str-2.result.now c.args.asked.usr listed c.deref-3.result.now
    files seen (g.D.Store.may_leave c.args.system.now) folder given (c.update_files.ensures.any_moment tells)

pub returns-clause-any_moment : goal.returns-clause-any_moment
returns-clause-any_moment g c = λ files selected tells.
    let root = c.args.asked.root.now in
    let seen = g.D.Store.seen c.args.system.now in
    let chosen = c.args.selection.now.chosen.items in
    let texts = c.args.selection.now.texts.items in
    let listed = map string_bytes c.args.selection.now.listed.items in
    let folder : c.as_str-2.result.now ≡ database_folder c.args.asked.usr root = c.as_str-2.ensures.value ∙ c.in_ok-folder.ensures in
    let read : AreReadOf root files listed c.in_ok-files.files.items =
    are_read root files listed (map choice_of chosen) (map (λ t. t.items) texts) c.in_ok-files.files.items selected
    (c.in_ok-files.ensures.choices ∙ ap (map choice_of) c.deref.ensures.value) (c.in_ok-files.ensures.bytes ∙ ap (map (λ t. t.items)) c.deref-2.ensures.value) in
    let given : AreReadOf root files listed c.deref-3.result.now = subst (AreReadOf root files listed) (sym c.deref-3.ensures.value) read in
    leaves_old_or_updated g.D.Store.moment g.D.Store.left_since c.args.system.now c.update_files.new.store root c.as_str-2.result.now c.args.asked.usr listed c.deref-3.result.now
    files seen (g.D.Store.may_leave c.args.system.now) folder given (c.update_files.ensures.any_moment tells)

pub returns-in_err-files-clause-follows : goal.returns-in_err-files-clause-follows
returns-in_err-files-clause-follows g c = λ tells of_etc of_usr less of.
    let F = files_by g.D.Store.seen g.D.System.may_fail g.D.Store.may_leave g.D.Store.failures in
    let T = told_by g.E.Sink.taken g.E.Sink.failures in
    let w = g.D.System.reads c.args.system.now in
    let plan = put_files c.args.asked.root.now c.args.asked.usr c.args.asked.verbose (λ faults. less (status_of c.args.asked.strict faults)) of_etc of_usr in
    unput w plan (F c.args.system.now) (T c.args.err.now) (status_by less c.from_residual.result) (shown_error less c.from_residual.result (Plain Memory) c.from_residual.ensures.1)

pub returns-in_err-folder-clause-follows : goal.returns-in_err-folder-clause-follows
returns-in_err-folder-clause-follows g c = λ tells of_etc of_usr less of.
    let F = files_by g.D.Store.seen g.D.System.may_fail g.D.Store.may_leave g.D.Store.failures in
    let T = told_by g.E.Sink.taken g.E.Sink.failures in
    let w = g.D.System.reads c.args.system.now in
    let plan = put_files c.args.asked.root.now c.args.asked.usr c.args.asked.verbose (λ faults. less (status_of c.args.asked.strict faults)) of_etc of_usr in
    unput w plan (F c.args.system.now) (T c.args.err.now) (status_by less c.from_residual-in_err-folder.result) (shown_error less c.from_residual-in_err-folder.result (Plain Memory) c.from_residual-in_err-folder.ensures.1)

pub returns-in_err-path_in-clause-follows : goal.returns-in_err-path_in-clause-follows
returns-in_err-path_in-clause-follows g c = λ tells of_etc of_usr less of.
    let F = files_by g.D.Store.seen g.D.System.may_fail g.D.Store.may_leave g.D.Store.failures in
    let T = told_by g.E.Sink.taken g.E.Sink.failures in
    let w = g.D.System.reads c.args.system.now in
    let plan = put_files c.args.asked.root.now c.args.asked.usr c.args.asked.verbose (λ faults. less (status_of c.args.asked.strict faults)) of_etc of_usr in
    unput w plan (F c.args.system.now) (T c.args.err.now) (status_by less c.from_residual-in_err-path_in.result) (shown_error less c.from_residual-in_err-path_in.result (Plain Memory) c.from_residual-in_err-path_in.ensures.1)

pub returns-in_err-loss-clause-follows : goal.returns-in_err-loss-clause-follows
returns-in_err-loss-clause-follows g c = λ tells of_etc of_usr less of.
    let F = files_by g.D.Store.seen g.D.System.may_fail g.D.Store.may_leave g.D.Store.failures in
    let T = told_by g.E.Sink.taken g.E.Sink.failures in
    let w = g.D.System.reads c.args.system.now in
    let plan = put_files c.args.asked.root.now c.args.asked.usr c.args.asked.verbose (λ faults. less (status_of c.args.asked.strict faults)) of_etc of_usr in
    let choices = c.in_ok-files.ensures.choices ∙ ap (map choice_of) c.deref.ensures.value in
    let chosen = files_chosen of_etc of_usr c.args.selection.now c.in_ok-files.files.items of choices (c.in_ok-files.ensures.bytes ∙ ap (map (λ t. t.items)) c.deref-2.ensures.value) in
    let bare = bare_files c.in_ok-files.files.items (length c.as_slice.result.now) c.is_empty.result (ap length c.as_slice.ensures.value) c.is_empty.ensures ∙ ap is_bare chosen.choices in
    puts_early w (loss_of (chosen_of of_etc of_usr) c.args.asked.root.now c.args.asked.usr)
    (λ loss. put_plan loss of_etc of_usr (listing c.args.asked.verbose of_usr) (λ faults. less (status_of c.args.asked.strict faults)) (database_folder c.args.asked.usr c.args.asked.root.now))
    c.in_err-loss.field-0.0 (F c.args.system.now) (T c.args.err.now) (status_by less c.from_residual-in_err-loss.result)
    (c.in_err-loss.ensures.follows (chosen_of of_etc of_usr) bare tells) (shown_error less c.from_residual-in_err-loss.result c.in_err-loss.field-0.0 c.from_residual-in_err-loss.ensures.1)

pub returns-in-Ok-clause-follows : goal.returns-in-Ok-clause-follows
returns-in-Ok-clause-follows g c = λ tells of_etc of_usr less of.
    let F = files_by g.D.Store.seen g.D.System.may_fail g.D.Store.may_leave g.D.Store.failures in
    let T = told_by g.E.Sink.taken g.E.Sink.failures in
    let w = g.D.System.reads c.args.system.now in
    let plan = put_files c.args.asked.root.now c.args.asked.usr c.args.asked.verbose (λ faults. less (status_of c.args.asked.strict faults)) of_etc of_usr in
    let choices = c.in_ok-files.ensures.choices ∙ ap (map choice_of) c.deref.ensures.value in
    let chosen = files_chosen of_etc of_usr c.args.selection.now c.in_ok-files.files.items of choices (c.in_ok-files.ensures.bytes ∙ ap (map (λ t. t.items)) c.deref-2.ensures.value) in
    let bare = bare_files c.in_ok-files.files.items (length c.as_slice.result.now) c.is_empty.result (ap length c.as_slice.ensures.value) c.is_empty.ensures ∙ ap is_bare chosen.choices in
    let root = c.args.asked.root.now in
    let shown = status_by less (Ok c.in-Ok.status) in
    let answer : List FaultIn → ℕ = λ faults. less (status_of c.args.asked.strict faults) in
    let told_names = option_map (λ l. map string_bytes l.now) c.listing.result in
    let names : told_names ≡ listing c.args.asked.verbose of_usr =
    c.listing.ensures ∙ ap (λ l. given_where c.args.asked.verbose (map string_bytes l)) c.deref-5.ensures.value ∙ ap (given_where c.args.asked.verbose) of.listed in
    let folder : c.as_str-2.result.now ≡ database_folder c.args.asked.usr root = c.as_str-2.ensures.value ∙ c.in_ok-folder.ensures in
    let given : AreChosenOf of_etc of_usr c.deref-3.result.now = subst (AreChosenOf of_etc of_usr) (sym c.deref-3.ensures.value) chosen in
    let puts = c.in-Ok.ensures.follows tells w less shown refl of_etc of_usr given in
    puts_then w (loss_of (chosen_of of_etc of_usr) root c.args.asked.usr) (λ loss. put_plan loss of_etc of_usr (listing c.args.asked.verbose of_usr) answer (database_folder c.args.asked.usr root))
    c.in_ok-loss.loss.items (F c.args.system.now) (F c.update_files.new.store) (T c.args.err.now) (T c.update_files.new.err) shown (c.in_ok-loss.ensures.follows (chosen_of of_etc of_usr) bare tells)
    (subst (λ f. PutsEnd w (put_plan c.in_ok-loss.loss.items of_etc of_usr (listing c.args.asked.verbose of_usr) answer f) (F c.args.system.now) (F c.update_files.new.store) (T c.args.err.now) (T c.update_files.new.err) shown) folder
    (subst (λ n. PutsEnd w (put_plan c.in_ok-loss.loss.items of_etc of_usr n answer c.as_str-2.result.now) (F c.args.system.now) (F c.update_files.new.store) (T c.args.err.now) (T c.update_files.new.err) shown) names
    (subst (λ l. PutsEnd w (put_plan l of_etc of_usr told_names answer c.as_str-2.result.now) (F c.args.system.now) (F c.update_files.new.store) (T c.args.err.now) (T c.update_files.new.err) shown) c.deref-4.ensures.value puts)))

pub returns-clause-follows : goal.returns-clause-follows
returns-clause-follows g c = λ tells of_etc of_usr less of.
    let F = files_by g.D.Store.seen g.D.System.may_fail g.D.Store.may_leave g.D.Store.failures in
    let T = told_by g.E.Sink.taken g.E.Sink.failures in
    let w = g.D.System.reads c.args.system.now in
    let plan = put_files c.args.asked.root.now c.args.asked.usr c.args.asked.verbose (λ faults. less (status_of c.args.asked.strict faults)) of_etc of_usr in
    let choices = c.in_ok-files.ensures.choices ∙ ap (map choice_of) c.deref.ensures.value in
    let chosen = files_chosen of_etc of_usr c.args.selection.now c.in_ok-files.files.items of choices (c.in_ok-files.ensures.bytes ∙ ap (map (λ t. t.items)) c.deref-2.ensures.value) in
    let bare = bare_files c.in_ok-files.files.items (length c.as_slice.result.now) c.is_empty.result (ap length c.as_slice.ensures.value) c.is_empty.ensures ∙ ap is_bare chosen.choices in
    let root = c.args.asked.root.now in
    let shown = status_by less (Err c.of_update.result) in
    let answer : List FaultIn → ℕ = λ faults. less (status_of c.args.asked.strict faults) in
    let told_names = option_map (λ l. map string_bytes l.now) c.listing.result in
    let names : told_names ≡ listing c.args.asked.verbose of_usr =
    c.listing.ensures ∙ ap (λ l. given_where c.args.asked.verbose (map string_bytes l)) c.deref-5.ensures.value ∙ ap (given_where c.args.asked.verbose) of.listed in
    let folder : c.as_str-2.result.now ≡ database_folder c.args.asked.usr root = c.as_str-2.ensures.value ∙ c.in_ok-folder.ensures in
    let at : c.into_bytes-path.result.items ≡ path_in c.as_str-2.result.now database_name =
    ap (λ v. v.items) c.into_bytes-path.ensures.value ∙ c.in_ok-path_in.ensures ∙ ap (λ f. path_in f database_name) (c.as_str.ensures.value ∙ c.in_ok-folder.ensures ∙ sym folder) in
    let given : AreChosenOf of_etc of_usr c.deref-3.result.now = subst (AreChosenOf of_etc of_usr) (sym c.deref-3.ensures.value) chosen in
    let puts = c.in-Err.ensures.follows tells w less shown (subst (λ p. IsOfUpdate c.in-Err.error p c.of_update.result) at c.of_update.ensures) of_etc of_usr given in
    puts_then w (loss_of (chosen_of of_etc of_usr) root c.args.asked.usr) (λ loss. put_plan loss of_etc of_usr (listing c.args.asked.verbose of_usr) answer (database_folder c.args.asked.usr root))
    c.in_ok-loss.loss.items (F c.args.system.now) (F c.update_files.new.store) (T c.args.err.now) (T c.update_files.new.err) shown (c.in_ok-loss.ensures.follows (chosen_of of_etc of_usr) bare tells)
    (subst (λ f. PutsEnd w (put_plan c.in_ok-loss.loss.items of_etc of_usr (listing c.args.asked.verbose of_usr) answer f) (F c.args.system.now) (F c.update_files.new.store) (T c.args.err.now) (T c.update_files.new.err) shown) folder
    (subst (λ n. PutsEnd w (put_plan c.in_ok-loss.loss.items of_etc of_usr n answer c.as_str-2.result.now) (F c.args.system.now) (F c.update_files.new.store) (T c.args.err.now) (T c.update_files.new.err) shown) names
    (subst (λ l. PutsEnd w (put_plan l of_etc of_usr told_names answer c.as_str-2.result.now) (F c.args.system.now) (F c.update_files.new.store) (T c.args.err.now) (T c.update_files.new.err) shown) c.deref-4.ensures.value puts)))

pub returns-in-Ok-clause-any_crash : goal.returns-in-Ok-clause-any_crash
returns-in-Ok-clause-any_crash g c = λ tells of_etc of_usr less of.
    let w = g.D.System.reads c.args.system.now in
    let seen = g.D.Store.seen c.args.system.now in
    let left = g.D.Store.may_leave c.args.system.now in
    let root = c.args.asked.root.now in
    let choices = c.in_ok-files.ensures.choices ∙ ap (map choice_of) c.deref.ensures.value in
    let chosen = files_chosen of_etc of_usr c.args.selection.now c.in_ok-files.files.items of choices (c.in_ok-files.ensures.bytes ∙ ap (map (λ t. t.items)) c.deref-2.ensures.value) in
    let bare = bare_files c.in_ok-files.files.items (length c.as_slice.result.now) c.is_empty.result (ap length c.as_slice.ensures.value) c.is_empty.ensures ∙ ap is_bare chosen.choices in
    let answer : List FaultIn → ℕ = λ faults. less (status_of c.args.asked.strict faults) in
    let told_names = option_map (λ l. map string_bytes l.now) c.listing.result in
    let names : told_names ≡ listing c.args.asked.verbose of_usr =
    c.listing.ensures ∙ ap (λ l. given_where c.args.asked.verbose (map string_bytes l)) c.deref-5.ensures.value ∙ ap (given_where c.args.asked.verbose) of.listed in
    let folder : c.as_str-2.result.now ≡ database_folder c.args.asked.usr root = c.as_str-2.ensures.value ∙ c.in_ok-folder.ensures in
    let given : AreChosenOf of_etc of_usr c.deref-3.result.now = subst (AreChosenOf of_etc of_usr) (sym c.deref-3.ensures.value) chosen in
    let same = ap (λ l. put_plan l of_etc of_usr told_names answer c.as_str-2.result.now) c.deref-4.ensures.value
    ∙ ap (λ n. put_plan c.in_ok-loss.loss.items of_etc of_usr n answer c.as_str-2.result.now) names
    ∙ ap (put_plan c.in_ok-loss.loss.items of_etc of_usr (listing c.args.asked.verbose of_usr) answer) folder in
    leaves_then g.D.Store.moment g.D.Store.left_since c.args.system.now c.update_files.new.store w seen left
    (put_plan c.in_ok-loss.loss.items of_etc of_usr (listing c.args.asked.verbose of_usr) answer (database_folder c.args.asked.usr root)) (put_files root c.args.asked.usr c.args.asked.verbose answer of_etc of_usr)
    (c.in_ok-loss.ensures.follows (chosen_of of_etc of_usr) bare tells (λ loss. put_plan loss of_etc of_usr (listing c.args.asked.verbose of_usr) answer (database_folder c.args.asked.usr root)))
    (subst (λ p. LeavesOnly g.D.Store.moment g.D.Store.left_since c.args.system.now c.update_files.new.store (OldOrPut w p seen left)) same (c.update_files.ensures.any_crash tells w less of_etc of_usr given))

pub returns-clause-any_crash : goal.returns-clause-any_crash
returns-clause-any_crash g c = λ tells of_etc of_usr less of.
    let w = g.D.System.reads c.args.system.now in
    let seen = g.D.Store.seen c.args.system.now in
    let left = g.D.Store.may_leave c.args.system.now in
    let root = c.args.asked.root.now in
    let choices = c.in_ok-files.ensures.choices ∙ ap (map choice_of) c.deref.ensures.value in
    let chosen = files_chosen of_etc of_usr c.args.selection.now c.in_ok-files.files.items of choices (c.in_ok-files.ensures.bytes ∙ ap (map (λ t. t.items)) c.deref-2.ensures.value) in
    let bare = bare_files c.in_ok-files.files.items (length c.as_slice.result.now) c.is_empty.result (ap length c.as_slice.ensures.value) c.is_empty.ensures ∙ ap is_bare chosen.choices in
    let answer : List FaultIn → ℕ = λ faults. less (status_of c.args.asked.strict faults) in
    let told_names = option_map (λ l. map string_bytes l.now) c.listing.result in
    let names : told_names ≡ listing c.args.asked.verbose of_usr =
    c.listing.ensures ∙ ap (λ l. given_where c.args.asked.verbose (map string_bytes l)) c.deref-5.ensures.value ∙ ap (given_where c.args.asked.verbose) of.listed in
    let folder : c.as_str-2.result.now ≡ database_folder c.args.asked.usr root = c.as_str-2.ensures.value ∙ c.in_ok-folder.ensures in
    let given : AreChosenOf of_etc of_usr c.deref-3.result.now = subst (AreChosenOf of_etc of_usr) (sym c.deref-3.ensures.value) chosen in
    let same = ap (λ l. put_plan l of_etc of_usr told_names answer c.as_str-2.result.now) c.deref-4.ensures.value
    ∙ ap (λ n. put_plan c.in_ok-loss.loss.items of_etc of_usr n answer c.as_str-2.result.now) names
    ∙ ap (put_plan c.in_ok-loss.loss.items of_etc of_usr (listing c.args.asked.verbose of_usr) answer) folder in
    leaves_then g.D.Store.moment g.D.Store.left_since c.args.system.now c.update_files.new.store w seen left
    (put_plan c.in_ok-loss.loss.items of_etc of_usr (listing c.args.asked.verbose of_usr) answer (database_folder c.args.asked.usr root)) (put_files root c.args.asked.usr c.args.asked.verbose answer of_etc of_usr)
    (c.in_ok-loss.ensures.follows (chosen_of of_etc of_usr) bare tells (λ loss. put_plan loss of_etc of_usr (listing c.args.asked.verbose of_usr) answer (database_folder c.args.asked.usr root)))
    (subst (λ p. LeavesOnly g.D.Store.moment g.D.Store.left_since c.args.system.now c.update_files.new.store (OldOrPut w p seen left)) same (c.update_files.ensures.any_crash tells w less of_etc of_usr given))
