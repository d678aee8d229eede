-- Words that ask for a job have a plan, or ask for an update. No words do both.
use Rattle.std.proofs.Common.{◌≡◌, ◌⊎◌, ap, inl, inr, refl, subst, sym, Bool, List, Option, None, Some, Err, [], ◌∷◌, true, false}
use Rattle.std.specs.List.{list_all}
use Rattle.std.specs.Option.{option_and_then}
use Rattle.std.specs.Prelude.{◌&&◌, ◌||◌, codes, find, if◌then◌else◌, is_some, not, option_map}
use Rattle.std.specs.Str.{bytes_eq}
use Rattle.std.proofs.lemmas.Slice.Eq.{bytes_eq-Decides}
use Rattle.clap.specs.Simple.{Shape, argument_words, built, label_of, matches_of, names_of, rows_at, subcommand_of}
use Rattle.clap.specs.Walk.{Row, Text, answers_to, stop_after}
use Rattle.hwdb_spec_commands.specs.CommandLine.{hwdb_app}
use Rattle.hwdb_spec_commands.specs.DeviceTree.{Sight}
use Rattle.hwdb_spec_commands.specs.Jobs.{IsJobOf, IsTask, has_flag}
use Rattle.hwdb_spec.specs.Store.{Outcomes}
use Rattle.hwdb_spec_commands.specs.Runs.{Files}
use Rattle.hwdb_spec_commands.specs.SysfsAnswers.{nothing_there, seen}
use Rattle.hwdb_spec_commands.specs.Told.Stop.{NoDatabase}
use Rattle.hwdb_spec_commands.specs.declared.job.Task.{Task}
use Rattle.hwdb_spec_commands.specs.declared.job.Task.TheVariants.{Update}
use Rattle.hwdb_spec_commands.specs.declared.unread.Unread.TheVariants as unread
use Rattle.hwdb_plan.specs.Advice.{advised_if}
use Rattle.hwdb_plan.specs.Plans.{Plan}
use Rattle.hwdb_plan.specs.Plans.End.{Stops}
use Rattle.hwdb_plan.specs.Plans.Plan.{Done}
use Rattle.hwdb_plan.specs.Requests.{Around, Command, plan_of}
use Rattle.hwdb_plan.specs.Requests.Command.{OfFiles}
use Rattle.hwdb_plan.specs.Requests.Request.{Alone}
use Rattle.hwdb_plan.specs.Status.{status_plan}
use Rattle.hwdb_spec_program.specs.DeviceErrors.{asked_names}
use Rattle.hwdb_spec_program.specs.ProgramPlan.{AskedUpdate, OldOrAsked, UpdatesIfAsked, advice_given, as_given, asked_update, command, command_of, files_plan, found_command, found_update, program_plan, root_given, strict_given, update_of}
use Rattle.hwdb_laws.proofs.PlannedLemmas.{mapped}
use Rattle.hwdb_laws.specs.PlannedJobs.{HaveUpdate, JobsArePlanned, NoneHaveBoth}
use Rattle.hwdb_laws.specs.PlannedRuns.{HavePlan}
use Rattle.hwdb_laws.specs.PlannedUpdates.{PlannedCrashesKeepFiles, PlannedRunsKeepFiles}

-- ---- the commands that words may name
both : (b c : Bool) → (b && c) ≡ true → (b ≡ true) × (c ≡ true)
both true true is = (refl, refl)
both true false is = absurd cc
both false c is = absurd cc

some_is : {X : Type 0} (x y : X) → Some x ≡ Some y → x ≡ y
some_is x y is = cc

-- what holds of the name of each command holds of the one that is found
found_is : (Is : Text → Bool) (word : Text) (rest : List Text) (subs : List Shape) (found : Text × List Row) → list_all (λ (s : Shape). Is s.name) subs ≡ true
    → option_map (λ (s : Shape). rows_at s rest) (find (λ (s : Shape). answers_to word (label_of s)) subs) ≡ Some found → Is found.0 ≡ true
found_is Is word rest [] found all is = absurd cc
found_is Is word rest (s ∷ more) found all is =
    let each = both (Is s.name) (list_all (λ (x : Shape). Is x.name) more) all in by each.0 (found_is Is word rest more found each.1) (answers_to word (label_of s)) is
  where
    Rest : Type 0
    Rest = option_map (λ (x : Shape). rows_at x rest) (find (λ (x : Shape). answers_to word (label_of x)) more) ≡ Some found → Is found.0 ≡ true

    by : Is s.name ≡ true → Rest → (b : Bool) → option_map (λ (x : Shape). rows_at x rest) (if b then Some s else find (λ (x : Shape). answers_to word (label_of x)) more) ≡ Some found → Is found.0 ≡ true
    by one again true is = subst (λ (f : Text × List Row). Is f.0 ≡ true) (some_is (rows_at s rest) found is) one
    by one again false is = again is

entered_is : (Is : Text → Bool) (words : List Text) (found : Text × List Row) → list_all (λ (s : Shape). Is s.name) (built hwdb_app).subs ≡ true → subcommand_of hwdb_app words ≡ Some found → Is found.0 ≡ true
entered_is Is words found all = by (stop_after (built hwdb_app).top.rules (names_of (built hwdb_app)) (argument_words hwdb_app words))
  where
    by : (stop : Option (Text × List Text))
        → option_and_then (λ (p : Text × List Text). option_map (λ (s : Shape). rows_at s p.1) (find (λ (s : Shape). answers_to p.0 (label_of s)) (built hwdb_app).subs)) stop ≡ Some found → Is found.0 ≡ true
    by None is = absurd cc
    by (Some p) is = found_is Is p.0 p.1 (built hwdb_app).subs found all is

-- each command is an update, or has a row; but for `help`, which asks for no job
abbrev is_planned : Sight → (root : Text) (strict : Bool) → List Row → Text → Bool
is_planned sight root strict rows name = bytes_eq name (codes "update") || (bytes_eq name (codes "help") || is_some (command sight root strict name rows))

all_planned : (sight : Sight) (root : Text) (strict : Bool) (rows : List Row) → list_all (λ (s : Shape). is_planned sight root strict rows s.name) (built hwdb_app).subs ≡ true
all_planned sight root strict rows = refl

-- two words are two
other_word : (one two : Text) → one ≡ two → bytes_eq one two ≡ false → ⊥
other_word one two is other = by (bytes_eq one two) ((bytes_eq-Decides one two).1 is) other
  where
    by : (b : Bool) → b ≡ true → b ≡ false → ⊥
    by true same other = absurd cc
    by false same other = absurd cc

-- `update` has a row with `--check`
abbrev checked_row : (root : Text) → Bool → Option Command
checked_row root b =
    option_map (λ (row : Text × Command). row.1)
    (find (λ (row : Text × Command). bytes_eq row.0 (codes "update")) (if b then (codes "update", OfFiles (Alone (status_plan root false true))) ∷ [] else []))

-- ---- words that name one
-- the plan that there is
abbrev plan_in : Option Plan → Plan
plan_in None = Done (Stops NoDatabase)
plan_in (Some p) = p

is_in : (o : Option Plan) → is_some o ≡ true → o ≡ Some (plan_in o)
is_in None is = absurd cc
is_in (Some p) is = refl

has_mapped : (f : Command → Plan) (o : Option Command) → is_some o ≡ true → is_some (option_map f o) ≡ true
has_mapped f None is = absurd cc
has_mapped f (Some c) is = refl

have_plan : (at_terminal : Bool) (words : List Text) → ((sight : Sight) → is_some (command_of sight words) ≡ true) → HavePlan at_terminal words
have_plan at_terminal words there =
    let top = matches_of hwdb_app words in
    let found = subcommand_of hwdb_app words in
    let line = advice_given found in record {
      plan = λ a. advised_if at_terminal line (as_given top found (plan_in (files_plan a words)));
      is = λ a. ap (λ (o : Option Plan). option_map (advised_if at_terminal line) (option_map (as_given top found) o))
          (is_in (files_plan a words) (has_mapped (plan_of asked_names a) (command_of a.sight words) (there a.sight)));
    }

module _ (at_terminal : Bool) (words : List Text) (found : Text × List Row) (is : subcommand_of hwdb_app words ≡ Some found) where
  abbrev Root : Text
  Root = root_given (matches_of hwdb_app words) found.1

  abbrev Strict : Bool
  Strict = strict_given (matches_of hwdb_app words) found.1

  abbrev Either : Type 0
  Either = HavePlan at_terminal words ⊎ HaveUpdate words

  of_command : ((sight : Sight) → is_some (command sight Root Strict found.0 found.1) ≡ true) → HavePlan at_terminal words
  of_command there = have_plan at_terminal words (λ sight. subst (λ (o : Option (Text × List Row)). is_some (found_command sight (matches_of hwdb_app words) o) ≡ true) (sym is) (there sight))

  other : bytes_eq found.0 (codes "update") ≡ false → bytes_eq found.0 (codes "help") ≡ false → HavePlan at_terminal words
  other plain asked =
      of_command (λ sight. has (command sight Root Strict found.0 found.1) (bytes_eq found.0 (codes "update")) (bytes_eq found.0 (codes "help")) plain asked
      (entered_is (is_planned sight Root Strict found.1) words found (all_planned sight Root Strict found.1) is))
    where
      has : (o : Option Command) (b c : Bool) → b ≡ false → c ≡ false → (b || (c || is_some o)) ≡ true → is_some o ≡ true
      has o false false plain asked so = so
      has o true c plain asked so = absurd cc
      has o false true plain asked so = absurd cc

  update : found.0 ≡ codes "update" → (check : Bool) → has_flag (codes "check") found.1 ≡ check → Either
  update named true on = inl (of_command (λ sight. subst (λ (n : Text). is_some (command sight Root Strict n found.1) ≡ true) (sym named) (row sight (has_flag (codes "check") found.1) on)))
    where
      row : (sight : Sight) (b : Bool) → b ≡ true → is_some (checked_row Root b) ≡ true
      row sight true is = refl
      row sight false is = absurd cc
  update named false off = inr (record {
    asked = asked_update (matches_of hwdb_app words) found.1;
    is = subst (λ (o : Option (Text × List Row)). found_update (matches_of hwdb_app words) o ≡ Some (asked_update (matches_of hwdb_app words) found.1)) (sym is)
        (subst (λ (b : Bool). (if bytes_eq found.0 (codes "update") && not b then Some (asked_update (matches_of hwdb_app words) found.1) else None) ≡ Some (asked_update (matches_of hwdb_app words) found.1)) (sym off)
        (subst (λ (n : Text). (if bytes_eq n (codes "update") && not false then Some (asked_update (matches_of hwdb_app words) found.1) else None) ≡ Some (asked_update (matches_of hwdb_app words) found.1)) (sym named) refl));
  })

  -- a task isn't that of `help`
  no_task : (task : Task) → IsTask (codes "help") found.1 task → ⊥
  no_task (Update u) asked = other_word (codes "help") _ asked.0 refl
  no_task task asked = other_word (codes "help") _ asked.0 refl

  either : (task : Task) → IsTask found.0 found.1 task → (named helps : Bool) → bytes_eq found.0 (codes "update") ≡ named → bytes_eq found.0 (codes "help") ≡ helps → Either
  either task asked true helps named help = update ((bytes_eq-Decides found.0 (codes "update")).0 named) (has_flag (codes "check") found.1) refl
  either task asked false false plain help = inl (other plain help)
  either task asked false true plain help = absurd (no_task task (subst (λ (word : Text). IsTask word found.1 task) ((bytes_eq-Decides found.0 (codes "help")).0 help) asked))

pub jobs_are_planned : JobsArePlanned
jobs_are_planned at_terminal words job asked = by (subcommand_of hwdb_app words) refl asked
  where
    by : (found : Option (Text × List Row)) → subcommand_of hwdb_app words ≡ found → IsJobOf (matches_of hwdb_app words) found job → HavePlan at_terminal words ⊎ HaveUpdate words
    by None is job_is = absurd job_is
    by (Some found) is job_is = either at_terminal words found is job.task job_is.task (bytes_eq found.0 (codes "update")) (bytes_eq found.0 (codes "help")) refl refl

-- ---- no words have both
-- any of what a run is told beside its files
some_around : Around
some_around = record { input = Err unread.Memory; sight = seen nothing_there; cause = [] }

module _ (top : List Row) (found : Text × List Row) (c : Command) where
  abbrev row_of : (word : Text) → Option Command
  row_of word = command some_around.sight (root_given top found.1) (strict_given top found.1) word found.1

  abbrev update_by : (named check : Bool) → Option AskedUpdate
  update_by named check = if named && not check then Some (asked_update top found.1) else None

  no_command : None ≡ Some c → ⊥
  no_command is = cc

  -- an update has no row
  no_row : found.0 ≡ codes "update" → has_flag (codes "check") found.1 ≡ false → row_of found.0 ≡ Some c → ⊥
  no_row is off has = no_command (subst (λ (b : Bool). checked_row (root_given top found.1) b ≡ Some c) off (subst (λ (word : Text). row_of word ≡ Some c) is has))

  no_update : (named check : Bool) → bytes_eq found.0 (codes "update") ≡ named → has_flag (codes "check") found.1 ≡ check → row_of found.0 ≡ Some c
      → found_update top (Some found) ≡ None
  no_update false check same on has = subst (λ (b : Bool). update_by b (has_flag (codes "check") found.1) ≡ None) (sym same) refl
  no_update true true same on has =
      subst (λ (b : Bool). update_by b (has_flag (codes "check") found.1) ≡ None) (sym same) (subst (λ (b : Bool). update_by true b ≡ None) (sym on) refl)
  no_update true false same off has = absurd (no_row ((bytes_eq-Decides found.0 (codes "update")).0 same) off has)

not_found : (top : List Row) (found : Option (Text × List Row)) (c : Command) → found_command some_around.sight top found ≡ Some c → found_update top found ≡ None
not_found top None c is = refl
not_found top (Some found) c is = no_update top found c (bytes_eq found.0 (codes "update")) (has_flag (codes "check") found.1) refl refl is

-- the command of a plan
commanded : (f : Command → Plan) (o : Option Command) (p : Plan) → option_map f o ≡ Some p → (c : Command) × (o ≡ Some c)
commanded f None p is = absurd cc
commanded f (Some c) p is = (c, refl)

not_asked : (at_terminal : Bool) (words : List Text) → HavePlan at_terminal words → update_of words ≡ None
not_asked at_terminal words have =
    let shown = mapped (advised_if at_terminal (advice_given (subcommand_of hwdb_app words))) (program_plan some_around words) (have.plan some_around) (have.is some_around) in
    let plain = mapped (as_given (matches_of hwdb_app words) (subcommand_of hwdb_app words)) (files_plan some_around words) shown.0 shown.1 in
    let c = commanded (plan_of asked_names some_around) (command_of some_around.sight words) plain.0 plain.1 in
    not_found (matches_of hwdb_app words) (subcommand_of hwdb_app words) c.0 c.1

pub none_have_both : NoneHaveBoth
none_have_both at_terminal words have update = let none = not_asked at_terminal words have in let some = update.is in cc

-- so no file changes
pub runs_keep : (before now : Files) → PlannedRunsKeepFiles before now
runs_keep before now at_terminal words w ob on result have left = subst (λ (o : Option AskedUpdate). UpdatesIfAsked o w before now ob on result) (not_asked at_terminal words have) left

pub crashes_keep : (outcomes : Outcomes) → PlannedCrashesKeepFiles outcomes
crashes_keep outcomes at_terminal words w causes old have p v left = subst (λ (o : Option AskedUpdate). OldOrAsked o w causes old outcomes p v) (not_asked at_terminal words have) left
