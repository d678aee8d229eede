-- What is said on a terminal if a task prints nothing.
use Rattle.std.proofs.Common.{◌≡◌, ◌∙◌, ◌⊎◌, ◌&&◌, inl, inr, ap, arith, refl, subst, sym, true≢false, Bool, IfSome, List, MatchResult, Option, None, Result, Some, Ok, Err, ℕ, [], true, false}
use Rattle.std.specs.Prelude.{codes, is_some, option_map}
use Rattle.std.specs.Io.KnownBytes.{Appends}
use Rattle.std.specs.Result.{IsErrAnd}
use Rattle.clap.specs.Simple.{matches_of, subcommand_of}
use Rattle.clap.specs.Walk.{Row, Text}
use Rattle.hwdb_spec.specs.Failures.{OneFailed, after_failure}
use Rattle.hwdb_spec.specs.declared.errors.ToolError.TheVariants.{Memory}
use Rattle.hwdb_spec_commands.specs.CommandLine.{hwdb_app}
use Rattle.hwdb_spec_commands.specs.DeviceTree.{Sight}
use Rattle.hwdb_spec_commands.specs.Jobs.{IsJobOf, has_flag, text_taker}
use Rattle.hwdb_spec_commands.specs.Runs.{HasTaken, Told, WasCut}
use Rattle.hwdb_spec_commands.specs.Told.{Reads, stop_of}
use Rattle.hwdb_spec_commands.specs.declared.job.Job.{Job}
use Rattle.hwdb_spec_commands.specs.declared.job.Task.{Task}
use Rattle.hwdb_spec_commands.specs.declared.refusals.Refusal.{Refusal}
use Rattle.hwdb_spec_commands.specs.declared.refusals.Refusal.TheVariants.{Plain}
use Rattle.hwdb_spec_commands.specs.declared.unread.Unread.TheVariants as unread
use Rattle.hwdb_spec_program.specs.DeviceErrors.{asked_names}
use Rattle.hwdb_spec_program.specs.ProgramPlan.{OfAround, ShowsPlan, advice_given, as_given, files_plan, found_command, over_texts, program_plan, root_given, said_by, shown_plan, strict_given}
use Rattle.hwdb_spec_program.specs.Program.{IsUpdate}
use Rattle.hwdb_spec_program.specs.Words.{AskFor}
use Rattle.hwdb_plan.specs.Advice.{AdvisedIsSaid, advised, advised_if, with_advice}
use Rattle.hwdb_plan.specs.Folders.{Texts}
use Rattle.hwdb_plan.specs.Ended.{Outs, Prints, Shows, ShowsEnd, outs}
use Rattle.hwdb_plan.specs.Lemmas.Ends.{answer_shows}
use Rattle.hwdb_plan.specs.Lemmas.Answering.{IsWhole, OnlyAnswers, only_choice, only_ends, only_text}
use Rattle.hwdb_plan.specs.Plans.{End, Ends, Follows, Plan}
use Rattle.hwdb_plan.specs.Plans.End.{Answers, Stops}
use Rattle.hwdb_plan.specs.Requests.{Around, plan_of}
use Rattle.hwdb_tool.specs.Advising.{IsWholeTask, is_advised, task_advice}
use Rattle.hwdb_tool.specs.Views.{end_of}
use Rattle.hwdb_tool.specs.declared.answer.Answer.{Answer}
use Rattle.hwdb_tool.proofs.ExplainWords.{line_of_task}
use Rattle.hwdb_tool.proofs.PlanOptions.{all_mapped, both, each, mapped}
use Rattle.hwdb_tool.proofs.ProgramPlanLemmas.{around}

-- ---- the line, by words
pub line_of : (words : List Text) (job : Job) → AskFor words job → advice_given (subcommand_of hwdb_app words) ≡ task_advice job.task
line_of words job asked = by (matches_of hwdb_app words) (subcommand_of hwdb_app words) asked
  where
    by : (top : List Row) (found : Option (Text × List Row)) → IsJobOf top found job → advice_given found ≡ task_advice job.task
    by top None is = absurd is
    by top (Some f) is = line_of_task job.task f.0 f.1 is.task

-- ---- without a line
untold : (at_terminal : Bool) (line : Option (List ℕ)) → (at_terminal && is_some line) ≡ false → (p : Plan) → advised_if at_terminal line p ≡ p
untold true (Some line) none p = absurd (true≢false none)
untold true None none p = refl
untold false (Some line) none p = refl
untold false None none p = refl

module _ (words : List Text) (job : Job) (asked : AskFor words job) where
  abbrev Line : Option (List ℕ)
  Line = advice_given (subcommand_of hwdb_app words)

  pub plainly_shown : (w : Reads) (sight : Sight) (input_before input_now : Told) (before now : Outs) (result : Result ℕ Refusal) (at_terminal : Bool) → (at_terminal && is_advised job.task) ≡ false
      → ShowsPlan (λ a. program_plan a words) w sight input_before input_now before now result → ShowsPlan (λ a. shown_plan at_terminal a words) w sight input_before input_now before now result
  plainly_shown w sight input_before input_now before now result at_terminal unasked (told, so, (cause, one_line, shows)) =
      let Shows : Plan → Type 0 = λ p. ShowsEnd w p input_before input_now before now result in
      let none : (at_terminal && is_some Line) ≡ false = ap (λ (o : Option (List ℕ)). at_terminal && is_some o) (line_of words job asked) ∙ unasked in (
        told,
        so,
        (
          cause,
          one_line,
          mapped (advised_if at_terminal Line) Shows Shows (program_plan (around sight told cause) words) (λ p s. subst Shows (sym (untold at_terminal Line none p)) s) shows,
        ),
      )

-- ---- plans that end in an answer
over_whole : (root : List ℕ) (taker : Option (Option Text)) (besides : Texts → List ℕ) (p : Plan) → OnlyAnswers p → OnlyAnswers (over_texts root taker besides p)
over_whole root None besides p only = only
over_whole root (Some misfit) besides p only = only_text misfit root besides p only

given_whole : (top : List Row) (found : Option (Text × List Row)) (p : Plan) → OnlyAnswers p → OnlyAnswers (as_given top found p)
given_whole top None p only = only
given_whole top (Some f) p only =
    let root = root_given top f.1 in
    let taker = text_taker f.0 f.1 in
    only_choice (has_flag (codes "text") f.1) (over_texts root taker (said_by f.0 f.1) p) p (over_whole root taker (said_by f.0 f.1) p only) only

pub whole : (words : List Text) (job : Job) → AskFor words job → IsWholeTask job.task → (a : Around) → IfSome (program_plan a words) OnlyAnswers
unfolding IsWholeTask
whole words job asked is_whole a =
    mapped (as_given (matches_of hwdb_app words) (subcommand_of hwdb_app words)) OnlyAnswers OnlyAnswers (files_plan a words) (λ p only. given_whole (matches_of hwdb_app words) (subcommand_of hwdb_app words) p only)
    (by (matches_of hwdb_app words) (subcommand_of hwdb_app words) asked)
  where
    by : (top : List Row) (found : Option (Text × List Row)) → IsJobOf top found job → IfSome (option_map (plan_of asked_names a) (found_command a.sight top found)) OnlyAnswers
    by top None is = absurd is
    by top (Some f) is = is_whole f.0 f.1 is.task a (root_given top f.1) (strict_given top f.1)

-- ---- texts that are kept in memory
-- no call of either output has failed
abbrev pub AreNew : Outs → Type 0
AreNew o = (o.out.failures ≡ 0) × (o.err.failures ≡ 0)

-- what is said of an error, by what the outputs tell then
abbrev pub IsKeptError : Refusal → Outs → Refusal → Type 0
IsKeptError r now x = ((x ≡ r) × AreNew now) ⊎ (x ≡ Plain Memory)

pub kept_error : (r x : Refusal) (now : Outs) → ((x ≡ r) × (now.out.failures ≡ 0) × (now.err.failures ≡ 0)) ⊎ (x ≡ Plain Memory) → IsKeptError r now x
kept_error r x now (inl (same, out, err)) = inl (same, (out, err))
kept_error r x now (inr memory) = inr memory

none_failed : (f g : ℕ) → f ≡ 0 → g ≡ 0 → OneFailed f g → ⊥
none_failed f g zero none failed = let one : g ≡ 1 = failed ∙ ap after_failure zero in omega (arith, one, none)

cut_none : (before now : Outs) (err out : List ℕ) → AreNew before → AreNew now → (WasCut err before.err now.err × (now.out ≡ before.out)) ⊎ (HasTaken err before.err now.err × WasCut out before.out now.out) → ⊥
cut_none before now err out new none (inl (cut, same)) = none_failed before.err.failures now.err.failures new.1 none.1 cut.failed
cut_none before now err out new none (inr (took, cut)) = none_failed before.out.failures now.out.failures new.0 none.0 cut.failed

module _ (w : Reads) (p : Plan) (only : OnlyAnswers p) (input_before input_now : Told) where
  -- the answer
  pub kept_ends : (e0 o0 e1 o1 : Told) (status : ℕ) (err out : List ℕ) → e0.bytes ≡ Some [] → o0.bytes ≡ Some [] → e1.bytes ≡ Some err → o1.bytes ≡ Some out
      → ShowsEnd w p input_before input_now (outs e0 o0) (outs e1 o1) (Ok status) → Ends w p (Answers status err out)
  kept_ends e0 o0 e1 o1 status err out none_said none_shown said shown (inr unshown) = absurd unshown.0
  kept_ends e0 o0 e1 o1 status err out none_said none_shown said shown (inl (e, ends, shows)) = by e (only_ends w p e only ends) ends shows
    where
      taken : (before now : Option (List ℕ)) (text is : List ℕ) → before ≡ Some [] → now ≡ Some is → Appends before now text → text ≡ is
      taken before now text is begun ended appends = by_parts before now begun ended appends
        where
          by_parts : (b n : Option (List ℕ)) → b ≡ Some [] → n ≡ Some is → Appends b n text → text ≡ is
          by_parts None n begun ended appends = cc
          by_parts (Some x) None begun ended appends = cc
          by_parts (Some x) (Some y) begun ended appends = cc

      by : (e : End) → IsWhole e → Ends w p e → Shows e input_before input_now (outs e0 o0) (outs e1 o1) (Ok status) → Ends w p (Answers status err out)
      by (Stops s) whole ends shows = absurd shows.0
      by (Answers n x y) whole ends (is, took) =
          let one : n ≡ status = sym is in
          let two : x ≡ err = taken e0.bytes e1.bytes x err none_said said took.took_err.whole in
          let three : y ≡ out = taken o0.bytes o1.bytes y out none_shown shown took.took_out.whole in
          subst (λ (m : ℕ). Ends w p (Answers m err out)) one (subst (λ (l : List ℕ). Ends w p (Answers n l out)) two (subst (λ (l : List ℕ). Ends w p (Answers n x l)) three ends))
      by e whole ends shows = absurd whole

  -- the error
  pub kept_stops : (before now : Outs) (r x : Refusal) → AreNew before → IsKeptError r now x → ShowsEnd w p input_before input_now before now (Err r) → (x ≡ Plain Memory) ⊎ Ends w p (Stops (stop_of x))
  kept_stops before now r x new (inr memory) shows = inl memory
  kept_stops before now r x new (inl (same, none)) (inr unshown) = inl (same ∙ unshown.0)
  kept_stops before now r x new (inl (same, none)) (inl (e, ends, shows)) = by e (only_ends w p e only ends) ends shows
    where
      by : (e : End) → IsWhole e → Ends w p e → Shows e input_before input_now before now (Err r) → (x ≡ Plain Memory) ⊎ Ends w p (Stops (stop_of x))
      by (Stops s) whole ends shows = inr (subst (λ t. Ends w p (Stops t)) (sym (ap stop_of same ∙ shows.0)) ends)
      by (Answers n err out) whole ends shows = absurd (cut_none before now err out new none (shows.1.cut))
      by e whole ends shows = absurd whole

-- ---- runs
module _ (w : Reads) (sight : Sight) (input_before input_now : Told) (words : List Text) where
  abbrev FollowsBy : (plan : Around → Option Plan) → Result Answer Refusal → Type 0
  FollowsBy plan answer = OfAround sight input_before.bytes input_before.failures input_now.failures (λ a. IfSome (plan a) (λ p. Follows end_of w p answer))

  module _ (job : Job) (asked : AskFor words job) where
    -- what is kept is the answer
    pub kept_follows : IsWholeTask job.task → (e0 o0 e1 o1 : Told) (a : Answer) (status : ℕ) → e0.bytes ≡ Some [] → o0.bytes ≡ Some [] → e1.bytes ≡ Some a.err.items → o1.bytes ≡ Some a.out.items → a.status ≡ status
        → ShowsPlan (λ a. program_plan a words) w sight input_before input_now (outs e0 o0) (outs e1 o1) (Ok status) → FollowsBy (λ a. program_plan a words) (Ok a)
    kept_follows is_whole e0 o0 e1 o1 answer status none_said none_shown said shown is (told, so, (cause, one_line, shows)) = (
      told,
      so,
      (
        cause,
        one_line,
        both OnlyAnswers (λ p. ShowsEnd w p input_before input_now (outs e0 o0) (outs e1 o1) (Ok status)) (λ p. Follows end_of w p (Ok answer)) (program_plan (around sight told cause) words)
            (λ p only s. subst (λ (n : ℕ). Ends w p (Answers n answer.err.items answer.out.items)) (sym is)
            (kept_ends w p only input_before input_now e0 o0 e1 o1 status answer.err.items answer.out.items none_said none_shown said shown s))
            (whole words job asked is_whole (around sight told cause)) shows,
      ),
    )

    -- or the error
    pub kept_refused : IsWholeTask job.task → (before now : Outs) (r x : Refusal) → AreNew before → IsKeptError r now x
        → ShowsPlan (λ a. program_plan a words) w sight input_before input_now before now (Err r) → FollowsBy (λ a. program_plan a words) (Err x)
    kept_refused is_whole before now r x new why (told, so, (cause, one_line, shows)) = (
      told,
      so,
      (
        cause,
        one_line,
        both OnlyAnswers (λ p. ShowsEnd w p input_before input_now before now (Err r)) (λ p. Follows end_of w p (Err x)) (program_plan (around sight told cause) words)
            (λ p only s. kept_stops w p only input_before input_now before now r x new why s) (whole words job asked is_whole (around sight told cause)) shows,
      ),
    )

    -- with the line
    line_is : (line : List ℕ) → Some line ≡ task_advice job.task → advice_given (subcommand_of hwdb_app words) ≡ Some line
    line_is line is = line_of words job asked ∙ sym is

    advised_by : (line : List ℕ) → Some line ≡ task_advice job.task → (a b : Result Answer Refusal) → ((p : Plan) → Follows end_of w p a → Follows end_of w (advised line p) b)
        → FollowsBy (λ a. program_plan a words) a → FollowsBy (λ a. shown_plan true a words) b
    advised_by line is a b step (told, so, (cause, one_line, follows)) = (
      told,
      so,
      (
        cause,
        one_line,
        subst (λ (o : Option (List ℕ)). IfSome (option_map (advised_if true o) (program_plan (around sight told cause) words)) (λ p. Follows end_of w p b)) (sym (line_is line is))
            (mapped (advised line) (λ p. Follows end_of w p a) (λ p. Follows end_of w p b) (program_plan (around sight told cause) words) step follows),
      ),
    )

    pub advised_follows : AdvisedIsSaid → (line : List ℕ) → Some line ≡ task_advice job.task → (a b : Answer) → end_of b ≡ with_advice line (end_of a)
        → FollowsBy (λ a. program_plan a words) (Ok a) → FollowsBy (λ a. shown_plan true a words) (Ok b)
    advised_follows law line is a b same follows =
        advised_by line is (Ok a) (Ok b) (λ p ends. subst (Ends w (advised line p)) (sym same) (law line w p (end_of a) ends)) follows

    pub advised_refused : AdvisedIsSaid → (line : List ℕ) → Some line ≡ task_advice job.task → (r : Refusal) (result : Result Answer Refusal) → IsErrAnd result (λ x. x ≡ r)
        → FollowsBy (λ a. program_plan a words) (Err r) → FollowsBy (λ a. shown_plan true a words) result
    advised_refused law line is r (Ok a) nope follows = absurd nope
    advised_refused law line is r (Err x) same follows = advised_by line is (Err r) (Err x) step follows
      where
        step : (p : Plan) → Follows end_of w p (Err r) → Follows end_of w (advised line p) (Err x)
        step p (inl memory) = inl (same ∙ memory)
        step p (inr ends) = inr (subst (λ (y : Refusal). Ends w (advised line p) (Stops (stop_of y))) (sym same) (law line w p (Stops (stop_of r)) ends))

  -- there is no memory for the line
  pub unadvised : (result : Result Answer Refusal) → IsErrAnd result (λ x. x ≡ Plain Memory) → FollowsBy (λ a. shown_plan true a words) result
  unadvised (Ok a) nope = absurd nope
  unadvised (Err x) memory = (
    Err unread.Memory,
    tt,
    ([], refl, all_mapped (advised_if true (advice_given (subcommand_of hwdb_app words))) (λ p. Follows end_of w p (Err x)) (program_plan (around sight (Err unread.Memory) []) words) (λ p. inl memory)),
  )

  -- and it is printed
  pub answered_shown : (before now : Outs) (result : Result ℕ Refusal) (answer : Result Answer Refusal)
      → MatchResult answer (λ a. Prints a.status a.err.items a.out.items before now result) (λ r. (result ≡ Err r) × (now ≡ before))
      → FollowsBy (λ a. shown_plan true a words) answer → ShowsPlan (λ a. shown_plan true a words) w sight input_before input_now before now result
  answered_shown before now result answer prints (told, so, (cause, one_line, follows)) = (
    told,
    so,
    (
      cause,
      one_line,
      each (λ p. Follows end_of w p answer) (λ p. ShowsEnd w p input_before input_now before now result) (shown_plan true (around sight told cause) words)
          (λ p f. answer_shows (λ (x : Answer). x.status) (λ x. x.err.items) (λ x. x.out.items) answer result w p input_before input_now before now f prints) follows,
    ),
  )

-- ---- what tells that a line is asked for
pub both_are : (a b : Bool) → (a && b) ≡ true → (a ≡ true) × (b ≡ true)
both_are true b is = (refl, is)
both_are false b is = absurd (true≢false (sym is))

-- an update has none
pub no_update_has : (task : Task) → is_advised task ≡ true → IsUpdate task → ⊥
no_update_has task some update = true≢false (sym some ∙ ap is_advised update.1)
