-- What the words of `device` ask for is what its function follows.
use Rattle.std.proofs.Common.{◌≡◌, refl, subst, sym, string_bytes, true, false, Bool, IfSome, List, None, Option, Result, Some, Err, ℕ, []}
use Rattle.std.specs.Prelude.{codes, if◌then◌else◌, is_some, option_map}
use Rattle.clap.specs.Walk.{Row, Text, first_of}
use Rattle.hwdb_spec_commands.specs.DeviceAsked.{device_form}
use Rattle.hwdb_spec_commands.specs.DeviceTree.{Sight}
use Rattle.hwdb_spec_commands.specs.Jobs.{IsTask, has_flag}
use Rattle.hwdb_spec_commands.specs.Runs.{Told}
use Rattle.hwdb_spec_commands.specs.Told.{Reads}
use Rattle.hwdb_spec_commands.specs.declared.args.DeviceArgs.{DeviceArgs}
use Rattle.hwdb_spec_commands.specs.declared.job.Task.TheVariants.{Device}
use Rattle.hwdb_spec_commands.specs.declared.devices.DeviceForm.{DeviceForm}
use Rattle.hwdb_spec_commands.specs.declared.refusals.Refusal.{Refusal}
use Rattle.hwdb_spec_commands.specs.declared.unread.Unread.{Unread}
use Rattle.hwdb_spec_commands.specs.declared.unread.Unread.TheVariants as unread
use Rattle.hwdb_spec_program.specs.DeviceErrors.{asked_names}
use Rattle.hwdb_plan.specs.Device.{device_asked, own_plan}
use Rattle.hwdb_plan.specs.Given.{given_at}
use Rattle.hwdb_plan.specs.Lemmas.Answering.{OnlyAnswers, only_device, only_own_device, only_report}
use Rattle.hwdb_plan.specs.Report.{report_answer}
use Rattle.hwdb_plan.specs.Requests.{Around, plan_of}
use Rattle.hwdb_plan.specs.Plans.{Follows, Plan}
use Rattle.hwdb_spec_program.specs.ProgramPlan.{device_command, device_from, rules_form, rules_of}
use Rattle.hwdb_plan.specs.Sysfs.{OfCause}
use Rattle.hwdb_spec_rules.specs.RuleAnswers.{wants_rules}
use Rattle.hwdb_tool.specs.Advising.{IsWholeTask}
use Rattle.hwdb_tool.specs.Reported.{FollowsFrom}
use Rattle.hwdb_tool.specs.Views.{end_of}
use Rattle.hwdb_tool.specs.declared.answer.Answer.{Answer}
use Rattle.hwdb_tool.proofs.ProgramPlanLemmas.{At, around, at_word, command_plan}

module _ (w : Reads) (sight : Sight) (input_before input_now : Told) (root : List ℕ) (strict : Bool) (word : Text) (rows : List Row) (answer : Result Answer Refusal) where
  abbrev Answers : Plan → Type 0
  Answers p = Follows end_of w p answer

  module _ (args : DeviceArgs) (is : IsTask word rows (Device args)) where
    -- what the words give is what the task has
    taken : (P : Bool → Bool → Bool → Bool → Option Text → Type 0) → P args.strings args.json args.pattern args.all (option_map string_bytes args.path)
        → P (has_flag (codes "strings") rows) (has_flag (codes "json") rows) (has_flag (codes "pattern") rows) (has_flag (codes "all") rows) (first_of (codes "DEVICE") rows)
    taken P p =
        subst (λ (o : Option Text). P (has_flag (codes "strings") rows) (has_flag (codes "json") rows) (has_flag (codes "pattern") rows) (has_flag (codes "all") rows) o) is.1
        (subst (λ (b : Bool). P b (has_flag (codes "json") rows) (has_flag (codes "pattern") rows) (has_flag (codes "all") rows) (option_map string_bytes args.path)) is.2
        (subst (λ (b : Bool). P args.strings b (has_flag (codes "pattern") rows) (has_flag (codes "all") rows) (option_map string_bytes args.path)) is.3
        (subst (λ (b : Bool). P args.strings args.json b (has_flag (codes "all") rows) (option_map string_bytes args.path)) is.4
        (subst (λ (b : Bool). P args.strings args.json args.pattern b (option_map string_bytes args.path)) is.5 p))))

    -- the plan of the command over an export, or sysfs
    abbrev Plan_of : (told : Result (List ℕ) Unread) (cause : List ℕ) → Option Text → Plan
    Plan_of told cause o = plan_of asked_names (around sight told cause) (device_command sight root rows o)

    -- the same, by whether the words ask for the machine's own rules
    abbrev Chosen_of : (told : Result (List ℕ) Unread) (cause : List ℕ) → Option Text → Bool → Plan
    Chosen_of told cause o own = plan_of asked_names (around sight told cause) (if own then rules_of sight root rows o else device_from sight root rows o)

    at_device : (told : Result (List ℕ) Unread) (cause : List ℕ) (o : Option Text) (own : Bool) → o ≡ first_of (codes "from") rows → wants_rules args.why (option_map string_bytes args.udev) ≡ own
        → Answers (Chosen_of told cause o own) → IfSome (command_plan (around sight told cause) root strict word rows) Answers
    at_device told cause o own named wants answers =
        at_word sight input_before input_now Answers root strict word rows (around sight told cause) (codes "device") is.0
        (subst (λ (x : Option Text). Answers (Plan_of told cause x)) named
        (subst (λ (b : Bool). Answers (Chosen_of told cause o b)) (sym (subst (λ (y : Bool). wants_rules y (first_of (codes "udev") rows) ≡ own) is.8 (subst (λ (u : Option Text). wants_rules args.why u ≡ own) is.7 wants))) answers))

    abbrev Form : DeviceForm
    Form = device_form args.strings args.json args.pattern

    by : (o : Option Text) → o ≡ first_of (codes "from") rows → wants_rules args.why (option_map string_bytes args.udev) ≡ false
        → FollowsFrom o root Form (option_map string_bytes args.udev) args.all (option_map string_bytes args.path) sight w input_before.bytes input_before.failures input_now.failures answer
        → At sight input_before input_now Answers root strict word rows
    by None named wants (cause, one_line, follows) = (
      Err unread.Memory,
      tt,
      (
        cause,
        one_line,
        at_device (Err unread.Memory) cause None false named wants
            (taken (λ s j p a g. Answers (device_asked sight cause asked_names root (device_form s j p) (first_of (codes "udev") rows) a g))
            (subst (λ (u : Option Text). Answers (device_asked sight cause asked_names root Form u args.all (option_map string_bytes args.path))) is.7 follows)),
      ),
    )
    by (Some f) named wants (told, so, follows) = (
      told,
      so,
      ([], refl, at_device told [] (Some f) false named wants (taken (λ s j p a g. Answers (given_at told f (report_answer asked_names root (device_form s j p) a g))) follows)),
    )

    pub device_planned : wants_rules args.why (option_map string_bytes args.udev) ≡ false
        → FollowsFrom (option_map string_bytes args.from) root Form (option_map string_bytes args.udev) args.all (option_map string_bytes args.path) sight w input_before.bytes input_before.failures input_now.failures answer
        → At sight input_before input_now Answers root strict word rows
    device_planned wants follows = by (option_map string_bytes args.from) is.6 wants follows

    -- the plan by the machine's own rules, by what the words give
    abbrev Own : (cause : List ℕ) (y s j p a : Bool) (g u f : Option Text) → Plan
    Own cause y s j p a g u f = own_plan sight cause asked_names root (record { why = y; form = device_form s j p }) u g a (is_some f)

    abbrev FollowsOwn : Type 0
    FollowsOwn =
        OfCause (λ cause. Answers (Own cause args.why args.strings args.json args.pattern args.all (option_map string_bytes args.path) (option_map string_bytes args.udev) (option_map string_bytes args.from)))

    pub own_planned : wants_rules args.why (option_map string_bytes args.udev) ≡ true → FollowsOwn → At sight input_before input_now Answers root strict word rows
    own_planned wants (cause, one_line, follows) = (
      Err unread.Memory,
      tt,
      (
        cause,
        one_line,
        at_device (Err unread.Memory) cause (first_of (codes "from") rows) true refl wants
            (taken (λ s j p a g. Answers (Own cause (has_flag (codes "why") rows) s j p a g (first_of (codes "udev") rows) (first_of (codes "from") rows)))
            (subst (λ (y : Bool). Answers (Own cause y args.strings args.json args.pattern args.all (option_map string_bytes args.path) (first_of (codes "udev") rows) (first_of (codes "from") rows))) is.8
            (subst (λ (u : Option Text). Answers (Own cause args.why args.strings args.json args.pattern args.all (option_map string_bytes args.path) u (first_of (codes "from") rows))) is.7
            (subst (λ (f : Option Text). Answers (Own cause args.why args.strings args.json args.pattern args.all (option_map string_bytes args.path) (option_map string_bytes args.udev) f)) is.6 follows)))),
      ),
    )

-- it ends in one answer
of_source : (a : Around) (root : List ℕ) (rows : List Row) (from : Option Text) → OnlyAnswers (plan_of asked_names a (device_from a.sight root rows from))
of_source a root rows None =
    only_device a.sight a.cause asked_names root (device_form (has_flag (codes "strings") rows) (has_flag (codes "json") rows) (has_flag (codes "pattern") rows)) (first_of (codes "udev") rows)
    (has_flag (codes "all") rows) (first_of (codes "DEVICE") rows)
of_source a root rows (Some from) =
    only_report a.input from asked_names root (device_form (has_flag (codes "strings") rows) (has_flag (codes "json") rows) (has_flag (codes "pattern") rows)) (has_flag (codes "all") rows) (first_of (codes "DEVICE") rows)

of_rules : (a : Around) (root : List ℕ) (rows : List Row) (from : Option Text) (own : Bool)
    → OnlyAnswers (plan_of asked_names a (if own then rules_of a.sight root rows from else device_from a.sight root rows from))
of_rules a root rows from true =
    only_own_device a.sight a.cause asked_names root (rules_form rows) (first_of (codes "udev") rows) (first_of (codes "DEVICE") rows) (has_flag (codes "all") rows) (is_some from)
of_rules a root rows from false = of_source a root rows from

pub device_whole : (args : DeviceArgs) → IsWholeTask (Device args)
unfolding IsWholeTask
device_whole args = λ word rows is a root strict.
    subst (λ (n : Text). IfSome (command_plan a root strict n rows) OnlyAnswers) (sym is.0)
    (of_rules a root rows (first_of (codes "from") rows) (wants_rules (has_flag (codes "why") rows) (first_of (codes "udev") rows)))
