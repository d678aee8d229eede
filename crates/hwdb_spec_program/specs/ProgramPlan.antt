-- The plan of a run, as its words compute it. Which words each command has is in `Jobs`. `update` has a plan here with `--check` alone:
-- else it changes files, and what it is asked for is computed. `query` and `update` are systemd-hwdb(8)'s; the rest is our choice.
use Rattle.clap.specs.Faults.{fault_of}
use Rattle.clap.specs.Simple.{matches_of, subcommand_of}
use Rattle.clap.specs.Walk.{Row, Text, all_of, first_of, one_of}
use Rattle.std.specs.Option.{option_or, unwrap_or}
use Rattle.std.specs.Prelude.{◌-◌, ◌≡◌, ◌⊎◌, ◌||◌, ◌∷◌, ℕ, Bool, false, List, [], None, Option, Some, Result, Ok, Err, IfSome, codes, find, if◌then◌else◌, is_some, length, not, option_map, take, true, ◌&&◌}
use Rattle.std.specs.Str.{bytes_eq}
use Rattle.std.specs.Str.Parse.{digits_value, without_leading_plus}
use Rattle.hwdb_spec_commands.specs.Patches.{format_asked}
use Rattle.hwdb_spec_commands.specs.CommandLine.{hwdb_app}
use Rattle.hwdb_spec_commands.specs.DeviceAsked.{device_form}
use Rattle.hwdb_spec_commands.specs.DeviceTree.{Sight, last_after}
use Rattle.hwdb_spec_commands.specs.Given.{is_dash}
use Rattle.hwdb_spec_commands.specs.Jobs.{has_flag, review_of, text_if, text_taker}
use Rattle.hwdb_spec_commands.specs.NearAsked.{near_form, near_limit}
use Rattle.hwdb_spec_commands.specs.OverText.{said_besides}
use Rattle.hwdb_spec.specs.Store.{Contents, Outcomes}
use Rattle.hwdb_spec.specs.declared.errors.ToolError.TheVariants.{Memory, Write}
use Rattle.hwdb_spec_commands.specs.Runs.{AreKept, Files, Told, World}
use Rattle.hwdb_spec_commands.specs.Told.{Reads}
use Rattle.hwdb_spec_commands.specs.declared.refusals.Refusal.{Refusal}
use Rattle.hwdb_spec_commands.specs.declared.refusals.Refusal.TheVariants.{Plain}
use Rattle.hwdb_spec_program.specs.DeviceErrors.{asked_names}
use Rattle.hwdb_spec_program.specs.GivenDatabases.{names_twice, twice_text}
use Rattle.hwdb_spec_program.specs.HidingPlan.{UpdatesTelling}
use Rattle.hwdb_spec_program.specs.TaskRefusals.{IsRootRefused, IsSaid}
use Rattle.hwdb_plan.specs.Advice.{advice_of, advised_if}
use Rattle.hwdb_plan.specs.Answers.{explain_plan, query_plan}
use Rattle.hwdb_plan.specs.Ask.{lone_answer}
use Rattle.hwdb_plan.specs.Check.{asked_request, said_of}
use Rattle.hwdb_plan.specs.Device.{own_search, search_of}
use Rattle.hwdb_spec_rules.specs.RuleAnswers.{wants_rules}
use Rattle.hwdb_spec_rules.specs.declared.forms.RulesForm.{RulesForm}
use Rattle.hwdb_plan.specs.Diff.{change_of, changes_request}
use Rattle.hwdb_plan.specs.Dump.{text_form}
use Rattle.hwdb_plan.specs.Ended.{Outs, ShowsEnd, outs, outs_of}
use Rattle.hwdb_plan.specs.Files.{OfInput}
use Rattle.hwdb_plan.specs.Folders.{Texts}
use Rattle.hwdb_plan.specs.Keys.{keys_plan}
use Rattle.hwdb_plan.specs.List.{list_plan}
use Rattle.hwdb_plan.specs.Near.{near_request}
use Rattle.hwdb_plan.specs.OverText.{if_fit, replaced_of, text_plan}
use Rattle.hwdb_plan.specs.Plans.{Plan}
use Rattle.hwdb_plan.specs.Report.{report_answer}
use Rattle.hwdb_plan.specs.Putting.{OldOrPut}
use Rattle.hwdb_plan.specs.Record.{record_request}
use Rattle.hwdb_plan.specs.Requests.{Around, Command, Request, Search, plan_of}
use Rattle.hwdb_plan.specs.Requests.Command.{OfDevices, OfFiles}
use Rattle.hwdb_plan.specs.Requests.Request.{Alone, AtPath, Fit, OfBase}
use Rattle.hwdb_plan.specs.Scan.{scan_plan}
use Rattle.hwdb_plan.specs.Status.{status_plan}
use Rattle.hwdb_plan.specs.Sysfs.{OfCause}
use Rattle.hwdb_plan.specs.Test.{test_request}
use Rattle.hwdb_plan.specs.Update.{update_plan}
use Rattle.hwdb_plan.specs.Verify.{summary}

-- ---- what words give
-- the values of an argument, or none
abbrev pub values_of : (id : Text) → List Row → List Text
values_of id rows = unwrap_or (all_of id rows) []

-- the value of one that a command needs
abbrev pub value_of : (id : Text) → List Row → Text
value_of id rows = unwrap_or (first_of id rows) []

-- the number that is given as limit, in decimal digits
abbrev pub limit_of : List Row → Option ℕ
limit_of rows = option_map (λ text. digits_value 10 (without_leading_plus text)) (one_of (codes "limit") rows)

-- the number of keys that is given, in the same way
abbrev pub count_of : List Row → Option ℕ
count_of rows = option_map (λ text. digits_value 10 (without_leading_plus text)) (one_of (codes "count") rows)

-- all texts but the last
abbrev pub before_last : List Text → List Text
before_last texts = take (length texts - 1) texts

-- the root that words give after the command or before it; nothing if they give none
abbrev pub root_given : (top rows : List Row) → List ℕ
root_given top rows = unwrap_or (option_or (first_of (codes "root") rows) (first_of (codes "root") top)) []

-- warnings count, by the words after the command or before it
abbrev pub strict_given : (top rows : List Row) → Bool
strict_given top rows = has_flag (codes "strict") rows || has_flag (codes "strict") top

-- ---- commands by their words
-- `near`: its last word is the device, and those before it are files
abbrev pub near_of : (root : List ℕ) → List Row → Request
near_of root rows =
    let words = values_of (codes "MODALIAS") rows in
    near_request (before_last words) root (near_form (has_flag (codes "json") rows) (last_after [] words) (near_limit (limit_of rows)))

-- `device`
abbrev pub device_of : Sight → (root : List ℕ) → List Row → Search
device_of sight root rows =
    search_of sight asked_names root (device_form (has_flag (codes "strings") rows) (has_flag (codes "json") rows) (has_flag (codes "pattern") rows))
    (first_of (codes "udev") rows) (has_flag (codes "all") rows) (first_of (codes "DEVICE") rows)

-- the same over an export of udev's database
abbrev pub report_of : (root : List ℕ) → List Row → (from : Text) → Request
report_of root rows from =
    AtPath from
    (report_answer asked_names root (device_form (has_flag (codes "strings") rows) (has_flag (codes "json") rows) (has_flag (codes "pattern") rows))
    (has_flag (codes "all") rows) (first_of (codes "DEVICE") rows))

-- of sysfs, or of an export if one is named
abbrev pub device_from : Sight → (root : List ℕ) → List Row → (from : Option Text) → Command
device_from sight root rows None = OfDevices (device_of sight root rows)
device_from sight root rows (Some from) = OfFiles (report_of root rows from)

-- what is told by rules, and in which form
abbrev pub rules_form : List Row → RulesForm
rules_form rows =
    record {
      why = has_flag (codes "why") rows;
      form = device_form (has_flag (codes "strings") rows) (has_flag (codes "json") rows) (has_flag (codes "pattern") rows);
    }

-- by the machine's own rules alone
abbrev pub rules_of : Sight → (root : List ℕ) → List Row → (from : Option Text) → Command
rules_of sight root rows from =
    OfDevices (own_search sight asked_names root (rules_form rows) (first_of (codes "udev") rows) (first_of (codes "DEVICE") rows) (has_flag (codes "all") rows) (is_some from))

-- by these, or by those that count else
abbrev pub device_command : Sight → (root : List ℕ) → List Row → (from : Option Text) → Command
device_command sight root rows from =
    if wants_rules (has_flag (codes "why") rows) (first_of (codes "udev") rows) then rules_of sight root rows from else device_from sight root rows from

-- `check`
abbrev pub check_of : (root : List ℕ) (strict : Bool) → List Row → Request
check_of root strict rows =
    asked_request (has_flag (codes "rules") rows) (values_of (codes "FILE") rows) root (first_of (codes "name") rows) (first_of (codes "baseline") rows)
    (said_of (format_asked (has_flag (codes "diff") rows) (has_flag (codes "json") rows) (first_of (codes "format") rows)) strict (values_of (codes "allow") rows))

-- `ask`
abbrev pub ask_of : List Row → Request
ask_of rows = let file = value_of (codes "FILE") rows in AtPath file (lone_answer file (value_of (codes "MODALIAS") rows))

-- `test`: whether devices get what test files want, or with `--record` a test file that holds
abbrev pub test_of : (root : List ℕ) → List Row → Request
test_of root rows =
    let words = values_of (codes "FILE") rows in
    let database = first_of (codes "database") rows in
    let json = has_flag (codes "json") rows in
    if has_flag (codes "record") rows then record_request json words database root else test_request words database root json

-- `diff`. That standard input is read once is from POSIX, Utility Syntax Guidelines, 13.
abbrev pub diff_of : List Row → Request
diff_of rows =
    let given = values_of (codes "devices") rows in
    let old = value_of (codes "OLD") rows in
    let new = value_of (codes "NEW") rows in
    Fit (text_if (names_twice given old new) twice_text) (changes_request given old new (change_of (review_of rows)))

-- `update`, with its word: with `--check` it is `status`, of which the status alone is told; without it there is none
abbrev pub update_rows : (root : List ℕ) → List Row → List (Text × Command)
update_rows root rows = if has_flag (codes "check") rows then (codes "update", OfFiles (Alone (status_plan root false true))) ∷ [] else []

-- each command that has a plan: its word, and what it asks by what is matched after that
abbrev pub commands : Sight → (root : List ℕ) (strict : Bool) → List Row → List (Text × Command)
commands sight root strict rows =
    let json = has_flag (codes "json") rows in
    let device = value_of (codes "MODALIAS") rows in
    (codes "query", OfFiles (Alone (query_plan root json (values_of (codes "MODALIAS") rows))))
    ∷ (codes "explain", OfFiles (Alone (explain_plan root json device)))
    ∷ (codes "ask", OfFiles (ask_of rows))
    ∷ (codes "list", OfFiles (Alone (list_plan root json device (first_of (codes "after") rows) (limit_of rows))))
    ∷ (codes "near", OfFiles (near_of root rows))
    ∷ (codes "device", device_command sight root rows (first_of (codes "from") rows))
    ∷ (codes "check", OfFiles (check_of root strict rows))
    ∷ (codes "test", OfFiles (test_of root rows))
    ∷ (codes "verify", OfFiles (OfBase (first_of (codes "DATABASE") rows) root summary))
    ∷ (codes "dump", OfFiles (OfBase (first_of (codes "DATABASE") rows) root text_form))
    ∷ (codes "diff", OfFiles (diff_of rows))
    ∷ (codes "status", OfFiles (Alone (status_plan root json false)))
    ∷ (codes "keys", OfFiles (Alone (keys_plan json (values_of (codes "WORD") rows))))
    ∷ (codes "scan", OfFiles (Alone (scan_plan root (value_of (codes "DEVICE") rows) (count_of rows))))
    ∷ update_rows root rows

-- the one with this word
abbrev pub command : Sight → (root : List ℕ) (strict : Bool) (word : Text) → List Row → Option Command
command sight root strict word rows = option_map (λ row. row.1) (find (λ row. bytes_eq row.0 word) (commands sight root strict rows))

-- ---- plans by words
-- the command, by what is matched before its word, and of that with what is matched after it
abbrev pub found_command : Sight → (top : List Row) → Option (Text × List Row) → Option Command
found_command sight top None = None
found_command sight top (Some found) = command sight (root_given top found.1) (strict_given top found.1) found.0 found.1

-- that of the words, the first of which is the program's name
abbrev pub command_of : Sight → (words : List Text) → Option Command
command_of sight words = found_command sight (matches_of hwdb_app words) (subcommand_of hwdb_app words)

-- its plan over the files as they are
abbrev pub files_plan : Around → (words : List Text) → Option Plan
files_plan a words = option_map (plan_of asked_names a) (command_of a.sight words)

-- ---- `--text`
-- what a command says besides, by the text files: `explain` says what they have and the database has not, unless standard input names devices
abbrev pub said_by : (word : Text) → List Row → Texts → List ℕ
said_by word rows texts =
    let device = value_of (codes "MODALIAS") rows in
    if bytes_eq word (codes "explain") then said_besides (is_dash device) (replaced_of (has_flag (codes "json") rows) device texts) else []

-- The plan of a command over the text files, if it takes `--text`. If its other words don't fit that, this is said of them.
abbrev pub over_texts : (root : List ℕ) → (taker : Option (Option Text)) → (besides : Texts → List ℕ) → Plan → Plan
over_texts root None besides p = p
over_texts root (Some misfit) besides p = if_fit misfit (text_plan root besides p)

-- the same if `--text` is given
abbrev pub as_given : (top : List Row) → Option (Text × List Row) → Plan → Plan
as_given top None p = p
as_given top (Some found) p =
    if has_flag (codes "text") found.1 then over_texts (root_given top found.1) (text_taker found.0 found.1) (said_by found.0 found.1) p else p

-- the plan of a run with these words
abbrev pub program_plan : Around → (words : List Text) → Option Plan
program_plan a words = option_map (as_given (matches_of hwdb_app words) (subcommand_of hwdb_app words)) (files_plan a words)

-- ---- on a terminal
-- what is said of a command that prints nothing, by its word and the device that its words name
abbrev pub advice_given : Option (Text × List Row) → Option Text
advice_given None = None
advice_given (Some found) = advice_of found.0 (value_of (codes "MODALIAS") found.1)

-- the plan of a run, by whether its standard error is a terminal: there it has that line
abbrev pub shown_plan : (at_terminal : Bool) → Around → (words : List Text) → Option Plan
shown_plan at_terminal a words = option_map (advised_if at_terminal (advice_given (subcommand_of hwdb_app words))) (program_plan a words)

-- ---- updates
-- what an update is asked for: the root, `--usr`, `--strict`, `--verbose`, and `--skip-unreadable`
pub record AskedUpdate : Type 0 where
  pub root : List ℕ
  pub usr : Bool
  pub strict : Bool
  pub verbose : Bool
  pub skip : Bool

-- by what is matched before its word, and after it
abbrev pub asked_update : (top rows : List Row) → AskedUpdate
asked_update top rows = record {
  root = root_given top rows;
  usr = has_flag (codes "usr") rows || has_flag (codes "usr") top;
  strict = strict_given top rows;
  verbose = has_flag (codes "verbose") rows;
  skip = has_flag (codes "skip-unreadable") rows;
}

-- a command is an update by its word, if it hasn't `--check`
abbrev pub found_update : (top : List Row) → Option (Text × List Row) → Option AskedUpdate
found_update top None = None
found_update top (Some found) =
    if bytes_eq found.0 (codes "update") && not (has_flag (codes "check") found.1) then Some (asked_update top found.1) else None

-- the update that words ask for, if they ask for one
abbrev pub update_of : (words : List Text) → Option AskedUpdate
update_of words = found_update (matches_of hwdb_app words) (subcommand_of hwdb_app words)

-- ---- runs
-- so of what a run is told beside its files
abbrev pub OfAround : Sight → (input : Option (List ℕ)) (failures_before failures_now : ℕ) → (Is : Around → Type 0) → Type 0
OfAround sight input before now Is = OfInput input before now (λ told. OfCause (λ cause. Is (record { input = told; sight = sight; cause = cause })))

-- a run that only reads shows what the plan of its words ends in, if they have one
abbrev pub ShowsPlan : (plan : Around → Option Plan) → Reads → Sight → (input_before input_now : Told) (before now : Outs) → Result ℕ Refusal → Type 0
ShowsPlan plan w sight input_before input_now before now result =
    OfAround sight input_before.bytes input_before.failures input_now.failures (λ a. IfSome (plan a) (λ p. ShowsEnd w p input_before input_now before now result))

-- a run does what the plans of this update end in, and standard output isn't used
abbrev pub DoesUpdate : AskedUpdate → Reads → (before now : Files) (outs_before outs_now : Outs) → Result ℕ Refusal → Type 0
DoesUpdate u w before now outs_before outs_now result =
    UpdatesTelling w u.root u.usr u.strict u.verbose u.skip before now outs_before.err outs_now.err result × (outs_now.out ≡ outs_before.out)

-- a run that is asked for an update does that, and any other run keeps all files
abbrev pub UpdatesIfAsked : Option AskedUpdate → Reads → (before now : Files) (outs_before outs_now : Outs) → Result ℕ Refusal → Type 0
UpdatesIfAsked None w before now outs_before outs_now result = AreKept before now
UpdatesIfAsked (Some u) w before now outs_before outs_now result = DoesUpdate u w before now outs_before outs_now result

-- A crash leaves what there was, or what the update that is asked for puts in place. The causes of files that it leaves out have these words.
abbrev pub OldOrAsked : Option AskedUpdate → Reads → (causes : List (List ℕ)) (old : Contents) (outcomes : Outcomes) → Outcomes
OldOrAsked None w causes old outcomes = outcomes
OldOrAsked (Some u) w causes old outcomes = OldOrPut w (update_plan u.root u.usr u.strict u.verbose u.skip causes) old outcomes

-- ---- the program
-- the status of an error, by the word of its command: 2 of `diff` and `check`, whose 1 says that something changed or was found; else 1
abbrev pub error_status : Option (Text × List Row) → ℕ
error_status None = 1
error_status (Some found) = if bytes_eq found.0 (codes "diff") || bytes_eq found.0 (codes "check") then 2 else 1

-- The program's status after a command. Standard error takes the line of an error then. If the reader of standard output went away, nothing
-- is said, and the status is 0.
abbrev pub IsReported : (gone : Type 0) (failed : ℕ) → Result ℕ Refusal → (status : ℕ) (err_then err_now : Told) → Type 0
IsReported gone failed (Ok n) status err_then err_now = (status ≡ n) × (err_now ≡ err_then)
IsReported gone failed (Err r) status err_then err_now =
    ((status ≡ failed) × IsSaid r err_then err_now) ⊎ ((status ≡ 0) × (r ≡ Plain Write) × gone × (err_now ≡ err_then))

-- A run shows what the plan of its words ends in, if they have one, or does the update that they ask for; and reports it. On a terminal the
-- plan has a line for who gets nothing.
pub record ReportsPlan (at_terminal : Bool) (gone : Type 0) (words : List Text) (w : Reads) (before now : World) (status : ℕ) : Type 0 where
  pub result : Result ℕ Refusal
  pub err_then : Told
  pub shows : ShowsPlan (λ a. shown_plan at_terminal a words) w before.devices before.input now.input (outs_of before) (outs err_then now.out) result
  pub updates : UpdatesIfAsked (update_of words) w before.files now.files (outs_of before) (outs err_then now.out) result
  pub reported : IsReported gone (error_status (subcommand_of hwdb_app words)) result status err_then now.err

-- there was no memory to read the words: the status is 1, standard error took that line, and nothing else changed
pub record AreWordsUnread (before now : World) (status : ℕ) : Type 0 where
  pub said : IsSaid (Plain Memory) before.err now.err
  pub out : now.out ≡ before.out
  pub kept : AreKept before.files now.files
  pub says : status ≡ 1

-- If the words have no fault, the program follows their plan. Before that there may be no memory to read them, or their root can't be read.
abbrev pub RunsPlan : (at_terminal : Bool) (gone : Type 0) (words : List Text) → Reads → (before now : World) (status : ℕ) → Type 0
RunsPlan at_terminal gone words w before now status = fault_of hwdb_app words ≡ []
    → ReportsPlan at_terminal gone words w before now status ⊎ (AreWordsUnread before now status ⊎ IsRootRefused words status before now)
