-- A run with `--text` follows the plan that its words compute.
use Rattle.std.proofs.Common.{◌≡◌, ◌≤◌, ◌∙◌, ◌⊎◌, ◌&&◌, ⊎_elim, inl, inr, ap, refl, subst, sym, length, true≢false, Bool, List, Option, None, Result, Some, Ok, Err, ℕ, [], true, false}
use Rattle.std.specs.Option.{unwrap_or}
use Rattle.std.specs.Prelude.{codes, if◌then◌else◌, is_some, not, option_map}
use Rattle.std.specs.Result.{IsErrAnd}
use Rattle.clap.specs.Simple.{matches_of, subcommand_of}
use Rattle.clap.specs.Walk.{Row, Text}
use Rattle.hwdb_spec.specs.Folders.{Source}
use Rattle.hwdb_spec.specs.Texts.{max_file}
use Rattle.hwdb_spec.specs.declared.errors.ToolError.TheVariants as error
use Rattle.hwdb_spec_commands.specs.CommandLine.{hwdb_app}
use Rattle.hwdb_spec_commands.specs.DeviceTree.{Sight}
use Rattle.hwdb_spec_commands.specs.Jobs.{IsJobOf, has_flag, text_taker}
use Rattle.hwdb_spec_commands.specs.OverText.{text_besides}
use Rattle.hwdb_spec_commands.specs.Refusals.{IsInWords}
use Rattle.hwdb_spec_commands.specs.Runs.{Told}
use Rattle.hwdb_spec_commands.specs.Told.{Reads, stop_of}
use Rattle.hwdb_spec_commands.specs.Told.Stop.{Says}
use Rattle.hwdb_spec_commands.specs.declared.job.Job.{Job}
use Rattle.hwdb_spec_commands.specs.declared.refusals.Refusal.{Refusal}
use Rattle.hwdb_spec_commands.specs.declared.refusals.Refusal.TheVariants as refusal
use Rattle.hwdb_spec_commands.specs.declared.unread.Unread.TheVariants as unread
use Rattle.hwdb_spec_program.specs.Program.{asks_text, is_update, root_of}
use Rattle.hwdb_spec_program.specs.DeviceErrors.{asked_names}
use Rattle.hwdb_plan.specs.Requests.{plan_of}
use Rattle.hwdb_spec_program.specs.ProgramPlan.{ShowsPlan, as_given, files_plan, found_command, over_texts, program_plan, root_given, said_by, strict_given}
use Rattle.hwdb_plan.specs.Requests.{Around}
use Rattle.hwdb_spec_program.specs.Words.{AskFor}
use Rattle.hwdb_plan.specs.Ended.{Outs, ShowsEnd}
use Rattle.hwdb_plan.specs.Folders.{Texts}
use Rattle.hwdb_plan.specs.Laws.{OverIsNoMore}
use Rattle.hwdb_plan.specs.Lemmas.OverText.{said_is_after, shows_after}
use Rattle.hwdb_plan.specs.Lemmas.Sides.{in_words_stops}
use Rattle.hwdb_plan.specs.OverText.{Basis, basis_now, from_basis, if_fit, is_first, text_plan, with_after}
use Rattle.hwdb_plan.specs.Plans.{End, Ends, Plan, over}
use Rattle.hwdb_plan.specs.Plans.End.{Stops}
use Rattle.hwdb_plan.specs.Plans.Plan.{Done}
use Rattle.hwdb_plan.specs.TextLaws.{MayFollow, WasSaid}
use Rattle.hwdb_system.specs.Reads.{with_read}
use Rattle.hwdb_tool.specs.TextPlans.{TextShowsOver}
use Rattle.hwdb_tool.specs.TextPlans.{besides_for, plan_over}
use Rattle.hwdb_tool.proofs.PlanOptions.{all_mapped, mapped, remapped}
use Rattle.hwdb_tool.proofs.ProgramPlanLemmas.{has_both, root_is}
use Rattle.hwdb_tool.proofs.ExplainText.{besides_is, explained_may}
use Rattle.hwdb_tool.proofs.UpdatingLemmas.{update_takes_none}

-- ---- what it makes of a plan
abbrev Given : (words : List Text) → Plan → Plan
Given words = as_given (matches_of hwdb_app words) (subcommand_of hwdb_app words)

-- the words that don't fit
abbrev pub misfit_of : Job → Option Text
misfit_of job = option_map (λ t. t.now) job.misfit

has_second : (b c : Bool) → (b && c) ≡ true → c ≡ true
has_second true c is = is
has_second false c is = absurd (true≢false (sym is))

not_false : (b : Bool) → not b ≡ false → b ≡ true
not_false true is = refl
not_false false is = absurd (true≢false is)

over_is : (root : List ℕ) (besides : Texts → List ℕ) (p : Plan) (taker : Option (Option Text)) (misfit : Option Text) → is_some taker ≡ true → misfit ≡ unwrap_or taker None
    → over_texts root taker besides p ≡ if_fit misfit (text_plan root besides p)
over_is root besides p None misfit some is = absurd (true≢false (sym some))
over_is root besides p (Some m) misfit some is = ap (λ (x : Option Text). if_fit x (text_plan root besides p)) (sym is)

module _ (words : List Text) (job : Job) (asked : AskFor words job) (p : Plan) where
  pub given_text : asks_text job ≡ true → Given words p ≡ if_fit (misfit_of job) (text_plan (root_of job) (λ texts. besides_for job.task texts) p)
  given_text asks = by (matches_of hwdb_app words) (subcommand_of hwdb_app words) asked
    where
      by : (top : List Row) (found : Option (Text × List Row)) → IsJobOf top found job → as_given top found p ≡ if_fit (misfit_of job) (text_plan (root_of job) (λ texts. besides_for job.task texts) p)
      by top None is = absurd is
      by top (Some f) is =
          let root = root_given top f.1 in
          let taker = text_taker f.0 f.1 in
          let both : (is_some taker && has_flag (codes "text") f.1) ≡ true = sym is.text ∙ has_both job.text (not (is_update job.task)) asks in
          ap (λ (b : Bool). if b then over_texts root taker (said_by f.0 f.1) p else p) (has_second (is_some taker) (has_flag (codes "text") f.1) both)
          ∙ over_is root (said_by f.0 f.1) p taker (misfit_of job) (has_both (is_some taker) (has_flag (codes "text") f.1) both) is.misfit
          ∙ ap (λ (said : Texts → List ℕ). if_fit (misfit_of job) (text_plan root said p)) (λ i texts. besides_is job.task f.0 f.1 is.task texts i)
          ∙ ap (λ (r : List ℕ). if_fit (misfit_of job) (text_plan r (λ texts. besides_for job.task texts) p)) (sym (root_is top f.0 f.1 job is))

  pub given_plain : asks_text job ≡ false → Given words p ≡ p
  given_plain asks = by (matches_of hwdb_app words) (subcommand_of hwdb_app words) asked
    where
      by : (top : List Row) (found : Option (Text × List Row)) → IsJobOf top found job → as_given top found p ≡ p
      by top None is = absurd is
      by top (Some f) is = flagged (has_flag (codes "text") f.1) (text_taker f.0 f.1) refl refl
        where
          flagged : (b : Bool) (taker : Option (Option Text)) → has_flag (codes "text") f.1 ≡ b → text_taker f.0 f.1 ≡ taker → (if b then over_texts (root_given top f.1) taker (said_by f.0 f.1) p else p) ≡ p
          flagged false taker flag known = refl
          flagged true None flag known = refl
          flagged true (Some m) flag known =
              let text : job.text ≡ true = is.text ∙ ap (λ (o : Option (Option Text)). is_some o && has_flag (codes "text") f.1) known ∙ flag in
              let updates = not_false (is_update job.task) (sym (ap (λ (b : Bool). b && not (is_update job.task)) text) ∙ asks) in
              absurd (true≢false (sym (ap is_some known) ∙ ap is_some (update_takes_none job.task f.0 f.1 is.task updates)))

-- ---- runs
-- an error, which is the result
pub one_error : (r : Refusal) (result : Result ℕ Refusal) → IsErrAnd result (λ x. x ≡ r) → Err r ≡ result
one_error r (Ok n) is = absurd is
one_error r (Err x) is = ap Err (sym is)

-- what a task says besides follows the answer of its plan
module _ (no_more : OverIsNoMore) (w : Reads) (root made : List ℕ) where
  words_may : (words : List Text) (job : Job) → AskFor words job → (a : Around) (p : Plan) → files_plan a words ≡ Some p → (etc usr : List Source) (text : List ℕ) → text ≡ text_besides job.task etc usr
      → (e : End) → Ends w (over (is_first root) made p) e → MayFollow text e
  words_may words job asked a p planned etc usr text of e ends = by (matches_of hwdb_app words) (subcommand_of hwdb_app words) asked planned
    where
      by : (top : List Row) (found : Option (Text × List Row)) → IsJobOf top found job → option_map (plan_of asked_names a) (found_command a.sight top found) ≡ Some p → MayFollow text e
      by top None is planned = absurd is
      by top (Some f) is planned = explained_may no_more w root made job.task f.0 f.1 is.task a (root_given top f.1) (strict_given top f.1) p planned etc usr text of e ends

module _ (w : Reads) (sight : Sight) (input_before input_now : Told) (before : Outs) (words : List Text) (job : Job) (asked : AskFor words job) where
  abbrev Shows : Outs → Result ℕ Refusal → Plan → Type 0
  Shows now result p = ShowsEnd w p input_before input_now before now result

  abbrev Planned : (plan : Around → Option Plan) → Outs → Result ℕ Refusal → Type 0
  Planned plan now result = ShowsPlan plan w sight input_before input_now before now result

  abbrev Program : Around → Option Plan
  Program a = program_plan a words

  -- without `--text` the plan of a run is that over the files as they are
  pub plainly_planned : (now : Outs) (result : Result ℕ Refusal) → asks_text job ≡ false → Planned (λ a. files_plan a words) now result → Planned Program now result
  plainly_planned now result asks (told, so, (cause, one_line, shows)) =
      let a : Around = record { input = told; sight = sight; cause = cause } in
      (told, so, (cause, one_line, mapped (Given words) (Shows now result) (Shows now result) (files_plan a words) (λ p s. subst (Shows now result) (sym (given_plain words job asked p asks)) s) shows))

  -- over a file system that has these bytes as the database
  pub over_planned : (root made : List ℕ) (now : Outs) (result : Result ℕ Refusal) → TextShowsOver → length made ≤ max_file
      → ShowsPlan (λ a. files_plan a words) (with_read root made w) sight input_before input_now before now result → Planned (plan_over root made words) now result
  over_planned root made now result law within (told, so, (cause, one_line, shows)) =
      let a : Around = record { input = told; sight = sight; cause = cause } in (
        told,
        so,
        (
          cause,
          one_line,
          mapped (over (is_first root) made) (λ p. ShowsEnd (with_read root made w) p input_before input_now before now result) (Shows now result) (files_plan a words)
              (λ p s. law root made w p input_before input_now before now result within s) shows,
        ),
      )

  module _ (asks : asks_text job ≡ true) where
    abbrev Over : Plan → Plan
    Over p = text_plan (root_of job) (λ texts. besides_for job.task texts) p

    fits : misfit_of job ≡ None → (p : Plan) → Given words p ≡ Over p
    fits fit p = given_text words job asked p asks ∙ ap (λ (m : Option (List ℕ)). if_fit m (Over p)) fit

    -- words that don't fit
    said_shows : (text : List ℕ) (r : Refusal) → IsInWords text r → Shows before (Err r) (Done (Stops (Says text)))
    unfolding Ends
    said_shows text r is = ⊎_elim (λ memory. inr (memory, refl)) (λ says. inl (Stops (Says text), refl, (says, refl))) (in_words_stops text r is)

    pub misused_planned : (text : List ℕ) (r : Refusal) → misfit_of job ≡ Some text → IsInWords text r → Planned Program before (Err r)
    misused_planned text r misuse is =
        let a : Around = record { input = Err unread.Memory; sight = sight; cause = [] } in (
          Err unread.Memory,
          tt,
          (
            [],
            refl,
            all_mapped (Given words) (Shows before (Err r)) (files_plan a words)
                (λ p. subst (Shows before (Err r)) (sym (given_text words job asked p asks ∙ ap (λ (m : Option (List ℕ)). if_fit m (Over p)) misuse)) (said_shows text r is)),
          ),
        )

    -- text files that can't be read, or not be compiled
    unmade_shows : (p : Plan) (r : Refusal)
        → (r ≡ refusal.Plain error.Memory) ⊎ ((next : Basis → Plan) → Ends w (basis_now (root_of job) (λ texts. besides_for job.task texts) next) (Stops (stop_of r))) → Shows before (Err r) (Over p)
    unmade_shows p r (inl memory) = inr (memory, refl)
    unmade_shows p r (inr ends) = inl (Stops (stop_of r), ends (from_basis (root_of job) p), (refl, refl))

    pub unmade_planned : (r : Refusal) (result : Result ℕ Refusal) → misfit_of job ≡ None
        → (r ≡ refusal.Plain error.Memory) ⊎ ((next : Basis → Plan) → Ends w (basis_now (root_of job) (λ texts. besides_for job.task texts) next) (Stops (stop_of r)))
        → IsErrAnd result (λ x. x ≡ r) → Planned Program before result
    unmade_planned r result fit why is =
        let a : Around = record { input = Err unread.Memory; sight = sight; cause = [] } in
        subst (Planned Program before) (one_error r result is)
        (Err unread.Memory, tt, ([], refl, all_mapped (Given words) (Shows before (Err r)) (files_plan a words) (λ p. subst (Shows before (Err r)) (sym (fits fit p)) (unmade_shows p r why))))

    -- the task was done over what they make, and then a text was said
    module _ (b : Basis) (goes : (next : Basis → Plan) (e : End) → Ends w (next b) e → Ends w (basis_now (root_of job) (λ texts. besides_for job.task texts) next) e)
        (middle now : Outs) (first result : Result ℕ Refusal) (said : WasSaid b.besides middle now first result) where
      unshown : (one : Result ℕ Refusal) → first ≡ one → IsErrAnd one (λ r. r ≡ refusal.Plain error.Memory) → middle ≡ before → IsErrAnd result (λ r. r ≡ refusal.Plain error.Memory) × (now ≡ before)
      unshown (Ok n) is none same = absurd none
      unshown (Err r) is none same =
          let after = (subst (λ (f : Result ℕ Refusal). WasSaid b.besides middle now f result) is said).said in
          (subst (λ (x : Result ℕ Refusal). IsErrAnd x (λ r. r ≡ refusal.Plain error.Memory)) (sym after.0) none, after.1 ∙ same)

      said_after_shows : (p : Plan) → ((e : End) → Ends w (over (is_first (root_of job)) b.database p) e → MayFollow b.besides e)
          → Shows middle first (over (is_first (root_of job)) b.database p) → Shows now result (Over p)
      said_after_shows p may (inl (e, ends, shows)) = inl (
        with_after b.besides e,
        goes (from_basis (root_of job) p) (with_after b.besides e) (said_is_after b.besides w (over (is_first (root_of job)) b.database p) e ends),
        shows_after b.besides e input_before input_now before middle now first result (may e ends) shows said,
      )
      said_after_shows p may (inr (none, same)) = inr (unshown first refl none same)

      pub text_planned : OverIsNoMore → misfit_of job ≡ None → (etc usr : List Source) → b.besides ≡ text_besides job.task etc usr
          → Planned (plan_over (root_of job) b.database words) middle first → Planned Program now result
      text_planned no_more fit etc usr of (told, so, (cause, one_line, shows)) =
          let a : Around = record { input = told; sight = sight; cause = cause } in (
            told,
            so,
            (
              cause,
              one_line,
              remapped (over (is_first (root_of job)) b.database) (Given words) (Shows middle first) (Shows now result) (files_plan a words)
                  (λ p planned s. subst (Shows now result) (sym (fits fit p))
                  (said_after_shows p (λ e ends. words_may no_more w (root_of job) b.database words job asked a p planned etc usr b.besides of e ends) s))
                  shows,
            ),
          )
