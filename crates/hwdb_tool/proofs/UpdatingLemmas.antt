-- Words that ask for an update, by the job that they ask for; and what a run of them does.
use Rattle.std.proofs.Common.{◌≡◌, ◌∙◌, ◌⊎◌, ⊎_elim, inl, inr, ap, refl, subst, sym, true≢false, Bool, List, Option, None, Some, Result, ℕ, [], true}
use Rattle.std.specs.Prelude.{◌&&◌, ◌||◌, codes, if◌then◌else◌, not}
use Rattle.std.specs.Str.{bytes_eq}
use Rattle.clap.specs.Simple.{matches_of, subcommand_of}
use Rattle.clap.specs.Walk.{Row, Text}
use Rattle.hwdb_spec.specs.Store.{Contents, LeavesOnly, Outcomes, Stored}
use Rattle.hwdb_spec_commands.specs.CommandLine.{hwdb_app}
use Rattle.hwdb_spec_commands.specs.Done.{IsLeftByUpdateLess, OldOrUpdatedLess}
use Rattle.hwdb_spec_commands.specs.Jobs.{IsJob, IsJobOf, IsTask, has_flag, text_taker}
use Rattle.hwdb_spec_commands.specs.Runs.{AreKept, Files, Told}
use Rattle.hwdb_spec_commands.specs.Told.{Reads}
use Rattle.hwdb_spec_commands.specs.declared.job.Job.{Job}
use Rattle.hwdb_spec_commands.specs.declared.job.Task.{Task}
use Rattle.hwdb_spec_commands.specs.declared.args.UpdateArgs.{UpdateArgs}
use Rattle.hwdb_spec_commands.specs.declared.job.Task.TheVariants.{Fresh, Update}
use Rattle.hwdb_spec_commands.specs.declared.refusals.Refusal.{Refusal}
use Rattle.hwdb_plan.specs.Ended.{Outs}
use Rattle.hwdb_plan.specs.Putting.{OldOrPut}
use Rattle.hwdb_plan.specs.Update.{update_plan}
use Rattle.hwdb_spec_program.specs.HidingPlan.{UpdatesTelling}
use Rattle.hwdb_spec_program.specs.Program.{IsUpdate, OldOrDone, is_update, root_of, skips}
use Rattle.hwdb_spec_program.specs.ProgramPlan.{AskedUpdate, OldOrAsked, UpdatesIfAsked, asked_update, found_update, strict_given, update_of}
use Rattle.hwdb_spec_program.specs.Words.{AskFor}
use Rattle.hwdb_tool.proofs.MomentLemmas.{leaves_more, leaves_old}
use Rattle.hwdb_tool.proofs.ProgramPlanLemmas.{root_is}
use Rattle.hwdb_tool.specs.Updating.{UpdatesAsAsked}

-- ---- a job that is an update
-- it is one update
of_task : (job : Job) (Is : (root : List ℕ) → UpdateArgs → Type 0) (root : List ℕ) (u : UpdateArgs) → root ≡ root_of job → job.task ≡ Update u → Is root u → (v : UpdateArgs) → job.task ≡ Update v → Is (root_of job) v
of_task job Is root u at is holds v also =
    let same : Update u ≡ Update v = sym is ∙ also in
    let one : u ≡ v = cc in
    subst (λ (x : UpdateArgs). Is (root_of job) x) one (subst (λ (r : List ℕ). Is r u) at holds)

-- what is left of one
pub task_updates : (w : Reads) (before now : Files) (err_before err_now : Told) (result : Result ℕ Refusal) (job : Job) (root : List ℕ) (u : UpdateArgs) → root ≡ root_of job → job.task ≡ Update u
    → UpdatesTelling w root job.usr job.strict u.verbose u.skip_unreadable before now err_before err_now result → UpdatesAsAsked job w before now err_before err_now result
task_updates w before now eb en result job root u at is = of_task job (λ r x. UpdatesTelling w r job.usr job.strict x.verbose x.skip_unreadable before now eb en result) root u at is

module _ {D : Type 0} (moment : D → ℕ) (left_since : D → ℕ → Outcomes) (old new : D) (seen : Contents) (left : Outcomes) (job : Job) (root : List ℕ) (u : UpdateArgs) (at : root ≡ root_of job)
    (is : job.task ≡ Update u) where
  -- what a crash leaves during it
  pub task_crash : (w : Reads) → (causes : List (List ℕ)) × LeavesOnly moment left_since old new (OldOrPut w (update_plan root job.usr job.strict u.verbose u.skip_unreadable causes) seen left)
      → (v : UpdateArgs) → job.task ≡ Update v → (causes : List (List ℕ)) × LeavesOnly moment left_since old new (OldOrPut w (update_plan (root_of job) job.usr job.strict v.verbose v.skip_unreadable causes) seen left)
  task_crash w =
      of_task job (λ r x. (causes : List (List ℕ)) × LeavesOnly moment left_since old new (OldOrPut w (update_plan r job.usr job.strict x.verbose x.skip_unreadable causes) seen left)) root u at is

  -- the same, in the words of the older clause
  pub task_moment : (MayFail : List ℕ → Type 0) → LeavesOnly moment left_since old new (OldOrUpdatedLess MayFail root job.usr u.skip_unreadable seen left) → LeavesOnly moment left_since old new (OldOrDone MayFail job seen left)
  task_moment MayFail leaves =
      leaves_more moment left_since old new (OldOrUpdatedLess MayFail root job.usr u.skip_unreadable seen left) (OldOrDone MayFail job seen left)
      (λ p v now. ⊎_elim (λ was. inl was) (λ l. inr (
        (u, is),
        subst (λ b. IsLeftByUpdateLess MayFail (root_of job) job.usr b seen p v) (sym (ap skips is)) (subst (λ r. IsLeftByUpdateLess MayFail r job.usr u.skip_unreadable seen p v) at l),
      )) now)
      leaves

-- an update, or not
by_task : (task : Task) → IsUpdate task ⊎ (IsUpdate task → ⊥)
by_task (Update u) = inl (u, refl)
by_task task = inr (λ (v, is). cc)

-- its words don't take `--text`
pub update_takes_none : (task : Task) (word : Text) (rows : List Row) → IsTask word rows task → is_update task ≡ true → text_taker word rows ≡ None
update_takes_none (Update u) word rows is updates = subst (λ (n : Text). text_taker n rows ≡ None) (sym is.0) refl
update_takes_none task word rows is updates = absurd (true≢false (sym updates))

-- ---- by words
-- what an update of this job is asked for
abbrev asked_of : Job → UpdateArgs → AskedUpdate
asked_of job u = record { root = root_of job; usr = job.usr; strict = job.strict; verbose = u.verbose; skip = u.skip_unreadable }

module _ (top : List Row) (found : Text × List Row) where
  abbrev found_by : (word : Text) (check : Bool) → Option AskedUpdate
  found_by word check = if bytes_eq word (codes "update") && not check then Some (asked_update top found.1) else None

  abbrev check_of : Bool
  check_of = has_flag (codes "check") found.1

  named_so : (word : Text) → found.0 ≡ word → ((b : Bool) → found_by word b ≡ None) → found_update top (Some found) ≡ None
  named_so word is other = subst (λ (n : Text). found_by n check_of ≡ None) (sym is) (other check_of)

  -- the words of another task
  unasked : (task : Task) → IsTask found.0 found.1 task → (IsUpdate task → ⊥) → found_update top (Some found) ≡ None
  unasked (Update u) is none = absurd (none (u, refl))
  unasked Fresh is none =
      subst (λ (n : Text). found_by n check_of ≡ None) (sym is.0) (subst (λ (b : Bool). found_by (codes "update") b ≡ None) (sym is.1) refl)
  unasked task is none = named_so _ is.0 (λ b. refl)

  -- those of an update
  asked_so : (job : Job) → IsJob top found.0 found.1 job → (u : UpdateArgs) → job.task ≡ Update u → found_update top (Some found) ≡ Some (asked_of job u)
  asked_so job is u task =
      let of = subst (λ (t : Task). IsTask found.0 found.1 t) task is.task in
      let here : found_update top (Some found) ≡ Some (asked_update top found.1) =
      subst (λ (n : Text). found_by n check_of ≡ Some (asked_update top found.1)) (sym of.0) (subst (λ (b : Bool). found_by (codes "update") b ≡ Some (asked_update top found.1)) (sym of.1) refl) in
      let root = root_is top found.0 found.1 job is in
      let has : (usr strict verbose skip : Bool) (root : List ℕ) → Option AskedUpdate = λ usr strict verbose skip root. Some (record { root = root; usr = usr; strict = strict; verbose = verbose; skip = skip }) in
      here
      ∙ sym (ap (λ (b : Bool). has b job.strict u.verbose u.skip_unreadable (root_of job)) is.usr
      ∙ ap (λ (b : Bool). has (has_flag (codes "usr") found.1 || has_flag (codes "usr") top) b u.verbose u.skip_unreadable (root_of job)) is.strict
      ∙ ap (λ (b : Bool). has (has_flag (codes "usr") found.1 || has_flag (codes "usr") top) (strict_given top found.1) b u.skip_unreadable (root_of job)) of.2
      ∙ ap (λ (b : Bool). has (has_flag (codes "usr") found.1 || has_flag (codes "usr") top) (strict_given top found.1) (has_flag (codes "verbose") found.1) b (root_of job)) of.3
      ∙ ap (λ (r : List ℕ). has (has_flag (codes "usr") found.1 || has_flag (codes "usr") top) (strict_given top found.1) (has_flag (codes "verbose") found.1) (has_flag (codes "skip-unreadable") found.1) r) root)

module _ (words : List Text) (job : Job) (asked : AskFor words job) where
  words_unasked : (IsUpdate job.task → ⊥) → update_of words ≡ None
  words_unasked none = by (matches_of hwdb_app words) (subcommand_of hwdb_app words) asked
    where
      by : (top : List Row) (found : Option (Text × List Row)) → IsJobOf top found job → found_update top found ≡ None
      by top None is = absurd is
      by top (Some p) is = unasked top p job.task is.task none

  words_asked : (u : UpdateArgs) → job.task ≡ Update u → update_of words ≡ Some (asked_of job u)
  words_asked u task = by (matches_of hwdb_app words) (subcommand_of hwdb_app words) asked
    where
      by : (top : List Row) (found : Option (Text × List Row)) → IsJobOf top found job → found_update top found ≡ Some (asked_of job u)
      by top None is = absurd is
      by top (Some p) is = asked_so top p job is u task

  -- ---- runs
  -- what is left
  pub updates_asked : (w : Reads) (before now : Files) (outs_before outs_now : Outs) (result : Result ℕ Refusal) → UpdatesAsAsked job w before now outs_before.err outs_now.err result
      → (IsUpdate job.task → outs_now.out ≡ outs_before.out) → ((IsUpdate job.task → ⊥) → AreKept before now) → UpdatesIfAsked (update_of words) w before now outs_before outs_now result
  updates_asked w before now ob on result updates quiet kept = by (by_task job.task)
    where
      by : IsUpdate job.task ⊎ (IsUpdate job.task → ⊥) → UpdatesIfAsked (update_of words) w before now ob on result
      by (inl (u, is)) = subst (λ (o : Option AskedUpdate). UpdatesIfAsked o w before now ob on result) (sym (words_asked u is)) (updates u is, quiet (u, is))
      by (inr none) = subst (λ (o : Option AskedUpdate). UpdatesIfAsked o w before now ob on result) (sym (words_unasked none)) (kept none)

  -- what a crash leaves
  module _ {D : Type 0} (moment : D → ℕ) (left_since : D → ℕ → Outcomes) (old new : D) (w : Reads) (seen : Contents) (left : Outcomes) where
    abbrev Leaves : Outcomes → Type 0
    Leaves outcomes = LeavesOnly moment left_since old new outcomes

    pub crash_asked : ((u : UpdateArgs) → job.task ≡ Update u → (causes : List (List ℕ)) × Leaves (OldOrPut w (update_plan (root_of job) job.usr job.strict u.verbose u.skip_unreadable causes) seen left))
        → ((IsUpdate job.task → ⊥) → Leaves left) → (causes : List (List ℕ)) × Leaves (OldOrAsked (update_of words) w causes seen left)
    crash_asked updates kept = by (by_task job.task)
      where
        by : IsUpdate job.task ⊎ (IsUpdate job.task → ⊥) → (causes : List (List ℕ)) × Leaves (OldOrAsked (update_of words) w causes seen left)
        by (inl (u, is)) =
            let leaves = updates u is in
            (leaves.0, subst (λ (o : Option AskedUpdate). Leaves (OldOrAsked o w leaves.0 seen left)) (sym (words_asked u is)) leaves.1)
        by (inr none) = ([], subst (λ (o : Option AskedUpdate). Leaves (OldOrAsked o w [] seen left)) (sym (words_unasked none)) (kept none))

-- nothing was done
old_if_asked : (o : Option AskedUpdate) (w : Reads) (causes : List (List ℕ)) (seen : Contents) (left : Outcomes) (p : List ℕ) (v : Option Stored) → left p v → OldOrAsked o w causes seen left p v
old_if_asked None w causes seen left p v l = l
old_if_asked (Some u) w causes seen left p v l = inl (inl l)

pub crash_before : (o : Option AskedUpdate) {D : Type 0} (moment : D → ℕ) (left_since : D → ℕ → Outcomes) (s : D) (w : Reads) (seen : Contents) (left : Outcomes)
    → ((p : List ℕ) (v : Option Stored) → left_since s (moment s) p v → left p v) → (causes : List (List ℕ)) × LeavesOnly moment left_since s s (OldOrAsked o w causes seen left)
crash_before o moment left_since s w seen left only = ([], leaves_old moment left_since s (OldOrAsked o w [] seen left) (λ p v l. old_if_asked o w [] seen left p v (only p v l)))

-- nothing changed
pub kept_so : {D : Type 0} (files : D → Files) (old new : D) → new ≡ old → AreKept (files old) (files new)
kept_so files old new same = subst (λ (s : _). AreKept (files old) (files s)) (sym same) (record { same = λ p. refl; no_more = λ p v l. l })

pub leaves_kept : {D : Type 0} (moment : D → ℕ) (left_since : D → ℕ → Outcomes) (old new : D) (left : Outcomes) → ((p : List ℕ) (v : Option Stored) → left_since old (moment old) p v → left p v)
    → new ≡ old → LeavesOnly moment left_since old new left
leaves_kept moment left_since old new left only same = subst (λ (s : _). LeavesOnly moment left_since old s left) (sym same) (leaves_old moment left_since old left only)
