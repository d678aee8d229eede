-- A run of some words follows the plan that the words compute. What each command's words ask for is in a file of its own (`QueryWords` ..).
use Rattle.std.proofs.Common.{◌≡◌, ◌∙◌, inl, inr, ap, refl, subst, sym, string_bytes, Bool, IfSome, List, MatchResult, Option, None, Result, Some, Ok, Err, ℕ, [], true, false}
use Rattle.std.specs.Option.{option_map_or, unwrap_or}
use Rattle.std.specs.Prelude.{if◌then◌else◌, ◌&&◌, codes, option_map}
use Rattle.std.specs.Str.Parse.{digits_value, without_leading_plus}
use Rattle.clap.specs.Simple.{matches_of, subcommand_of}
use Rattle.clap.specs.Walk.{Row, Text, all_of, first_of, one_of}
use Rattle.hwdb_spec_commands.specs.CommandLine.{hwdb_app}
use Rattle.hwdb_spec_commands.specs.DeviceTree.{Sight}
use Rattle.hwdb_spec_commands.specs.Given.{is_dash}
use Rattle.hwdb_spec_commands.specs.Jobs.{IsJob, IsJobOf, IsLimit, IsTask}
use Rattle.hwdb_spec_commands.specs.Runs.{Told}
use Rattle.hwdb_spec_commands.specs.Told.{Reads, stop_of}
use Rattle.hwdb_spec_commands.specs.declared.job.Job.{Job}
use Rattle.hwdb_spec_commands.specs.declared.refusals.Refusal.{Refusal}
use Rattle.hwdb_spec_commands.specs.declared.unread.Unread.{Unread}
use Rattle.hwdb_spec_commands.specs.declared.unread.Unread.TheVariants as unread
use Rattle.hwdb_spec_program.specs.DeviceErrors.{asked_names}
use Rattle.hwdb_spec_program.specs.Program.{root_of}
use Rattle.hwdb_spec_program.specs.ProgramPlan.{OfAround, command, files_plan, found_command, limit_of, root_given, strict_given, value_of, values_of}
use Rattle.hwdb_plan.specs.Requests.{Around, plan_of}
use Rattle.hwdb_spec_program.specs.Words.{AskFor}
use Rattle.hwdb_plan.specs.Asking.{if_read, named}
use Rattle.hwdb_plan.specs.Ended.{Outs, Prints, ShowsEnd}
use Rattle.hwdb_plan.specs.Files.{OfInput}
use Rattle.hwdb_plan.specs.Given.{given_at, given_or_asked}
use Rattle.hwdb_plan.specs.Input.{OverGiven, OverNamed, reads_with}
use Rattle.hwdb_plan.specs.Lemmas.Ends.{answer_shows}
use Rattle.hwdb_plan.specs.Plans.{End, Ends, Follows, Next, Plan}
use Rattle.hwdb_plan.specs.Plans.End.{Stops}
use Rattle.hwdb_plan.specs.Plans.Plan.{Input}
use Rattle.hwdb_tool.specs.Verbs.{AnswersAsked, ShowsAsked}
use Rattle.hwdb_tool.specs.Views.{end_of}
use Rattle.hwdb_tool.specs.declared.answer.Answer.{Answer}
use Rattle.hwdb_tool.proofs.JobLemmas.{one_root}
use Rattle.hwdb_tool.proofs.PlanOptions.{each}

-- ---- what words give
pub some_values : (id : Text) (rows : List Row) (texts : List Text) → Some texts ≡ all_of id rows → texts ≡ values_of id rows
some_values id rows texts are = ap (λ (o : Option (List Text)). unwrap_or o []) are

pub some_value : (id : Text) (rows : List Row) (text : Text) → Some text ≡ first_of id rows → text ≡ value_of id rows
some_value id rows text is = ap (λ (o : Option Text). unwrap_or o []) is

pub number_is : (text : Option Text) (number : Option ℕ) → IsLimit text number → number ≡ option_map (λ text. digits_value 10 (without_leading_plus text)) text
number_is None number none = none
number_is (Some text) None nope = absurd nope
number_is (Some text) (Some n) parsed = ap Some parsed.1

pub limit_is : (rows : List Row) (limit : Option ℕ) → IsLimit (one_of (codes "limit") rows) limit → limit ≡ limit_of rows
limit_is rows limit is = number_is (one_of (codes "limit") rows) limit is

same_default : (o : Option (List ℕ)) → option_map_or (λ (x : List ℕ). x) o [] ≡ unwrap_or o []
same_default None = refl
same_default (Some x) = refl

pub root_is : (top : List Row) (word : Text) (rows : List Row) (job : Job) → IsJob top word rows job → root_of job ≡ root_given top rows
root_is top word rows job is = one_root job ∙ same_default (option_map string_bytes job.root) ∙ ap (λ (o : Option (List ℕ)). unwrap_or o []) is.root

pub has_both : (b c : Bool) → (b && c) ≡ true → b ≡ true
has_both true c is = refl
has_both false c is = is

-- ---- standard input, as a file that is there
follows_both : {Y : Type 0} (end_of : Y → End) (w x : Reads) (p q : Plan) (result : Result Y Refusal) → ((e : End) → Ends w p e → Ends x q e) → Follows end_of w p result → Follows end_of x q result
follows_both end_of w x p q (Ok y) step ends = step (end_of y) ends
follows_both end_of w x p q (Err r) step (inl memory) = inl memory
follows_both end_of w x p q (Err r) step (inr ends) = inr (step (Stops (stop_of r)) ends)

-- what follows asks nothing more
abbrev pub AsksNothing : Next → Type 0
AsksNothing next = (w x : Reads) (path bytes : List ℕ) (e : End) → Ends w (next path bytes) e → Ends x (next path bytes) e

module _ {Y : Type 0} (end_of : Y → End) (w : Reads) (input : Option (List ℕ)) (n m : ℕ) (next : Next) (quiet : AsksNothing next) (result : Result Y Refusal) where
  told_ends : (told : Result (List ℕ) Unread) (e : End) → Ends (reads_with told w) (if_read (codes "standard input") next told) e → Ends w (if_read (codes "standard input") next told) e
  unfolding Ends
  told_ends (Ok bytes) e ends = quiet (reads_with (Ok bytes) w) w (codes "standard input") bytes e ends
  told_ends (Err why) e ends = ends

  input_ends : (told : Result (List ℕ) Unread) (e : End) → Ends (reads_with told w) (Input (codes "standard input") (if_read (codes "standard input") next)) e → Ends w (if_read (codes "standard input") next told) e
  unfolding Ends
  input_ends told e ends = told_ends told e ends

  -- a file that words give
  pub given_follows : (b : Bool) (path : List ℕ) → is_dash path ≡ b → OverGiven b path input n m w (λ at reads. Follows end_of reads (Input at (if_read at next)) result)
      → OfInput input n m (λ told. Follows end_of w (given_at told path next) result)
  given_follows false path is follows =
      (Err unread.Memory, tt, subst (λ (c : Bool). Follows end_of w (if c then if_read (codes "standard input") next (Err unread.Memory) else Input path (if_read path next)) result) (sym is) follows)
  given_follows true path is (told, so, follows) = (
    told,
    so,
    subst (λ (c : Bool). Follows end_of w (if c then if_read (codes "standard input") next told else Input path (if_read path next)) result) (sym is)
        (follows_both end_of (reads_with told w) w (Input (codes "standard input") (if_read (codes "standard input") next)) (if_read (codes "standard input") next told) result (input_ends told) follows),
  )

  -- a database that words may name
  pub named_follows : (root : List ℕ) (given : Option (List ℕ)) → OverNamed given input n m w (λ g reads. Follows end_of reads (named g root next) result)
      → OfInput input n m (λ told. Follows end_of w (given_or_asked told given root next) result)
  named_follows root None follows = (Err unread.Memory, tt, follows)
  named_follows root (Some path) over = given_follows (is_dash path) path refl over

-- ---- runs
-- what a run is told beside its files
abbrev pub around : Sight → (told : Result (List ℕ) Unread) (cause : List ℕ) → Around
around sight told cause = record { input = told; sight = sight; cause = cause }

-- the plan of a command with this word
abbrev pub command_plan : Around → (root : List ℕ) (strict : Bool) (word : Text) → List Row → Option Plan
command_plan a root strict word rows = option_map (plan_of asked_names a) (command a.sight root strict word rows)

module _ (sight : Sight) (input_before input_now : Told) (Is : Plan → Type 0) where
  abbrev Planned : (plan : Around → Option Plan) → Type 0
  Planned plan = OfAround sight input_before.bytes input_before.failures input_now.failures (λ a. IfSome (plan a) Is)

  -- the words ask for a job, whose command has a plan by its word
  pub of_words : (words : List Text) (job : Job) → AskFor words job → ((word : Text) (rows : List Row) → IsTask word rows job.task → Planned (λ a. command_plan a (root_of job) job.strict word rows))
      → Planned (λ a. files_plan a words)
  of_words words job asked each = by (matches_of hwdb_app words) (subcommand_of hwdb_app words) asked
    where
      by : (top : List Row) (found : Option (Text × List Row)) → IsJobOf top found job → Planned (λ a. option_map (plan_of asked_names a) (found_command a.sight top found))
      by top None is = absurd is
      by top (Some p) is =
          subst (λ (r : List ℕ). Planned (λ a. command_plan a r (strict_given top p.1) p.0 p.1)) (root_is top p.0 p.1 job is)
          (subst (λ (s : Bool). Planned (λ a. command_plan a (root_of job) s p.0 p.1)) is.strict (each p.0 p.1 is.task))

  module _ (root : List ℕ) (strict : Bool) (word : Text) (rows : List Row) where
    pub at_word : (a : Around) (known : Text) → word ≡ known → IfSome (command_plan a root strict known rows) Is → IfSome (command_plan a root strict word rows) Is
    at_word a known is shows = subst (λ (n : Text). IfSome (command_plan a root strict n rows) Is) (sym is) shows

    abbrev pub At : Type 0
    At = Planned (λ a. command_plan a root strict word rows)

    -- a command that asks nothing of standard input
    pub alone : (known : Text) → word ≡ known → IfSome (command_plan (around sight (Err unread.Memory) []) root strict known rows) Is → At
    alone known is shows = (Err unread.Memory, tt, ([], refl, at_word (around sight (Err unread.Memory) []) known is shows))

-- an answer that is printed shows its plan
pub printed_shows : (w : Reads) (sight : Sight) (input_before input_now : Told) (before now : Outs) (result : Result ℕ Refusal) (job : Job) (answer : Result Answer Refusal)
    → AnswersAsked job w sight input_before input_now answer → MatchResult answer (λ a. Prints a.status a.err.items a.out.items before now result) (λ r. (result ≡ Err r) × (now ≡ before))
    → ShowsAsked job w sight input_before input_now before now result
printed_shows w sight input_before input_now before now result job answer answers prints words asked =
    let (told, so, (cause, one_line, follows)) = answers words asked in (
      told,
      so,
      (
        cause,
        one_line,
        each (λ p. Follows end_of w p answer) (λ p. ShowsEnd w p input_before input_now before now result) (files_plan (around sight told cause) words)
            (λ p follow. answer_shows (λ (a : Answer). a.status) (λ a. a.err.items) (λ a. a.out.items) answer result w p input_before input_now before now follow prints) follows,
      ),
    )
