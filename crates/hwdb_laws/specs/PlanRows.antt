-- Worked rows of plans: which plan or update words ask for, as SYNOPSIS of hwdb(8) has the words; the status of an error, by EXIT STATUS;
-- and what `device` ends in without sysfs, by DIAGNOSTICS.
use Rattle.std.specs.Prelude.{◌∷◌, ◌≡◌, Bool, Err, List, None, Option, Some, [], codes, false, if◌then◌else◌, true, ℕ}
use Rattle.std.specs.Str.{bytes_eq}
use Rattle.clap.specs.Simple.{subcommand_of}
use Rattle.clap.specs.Walk.{Text}
use Rattle.hwdb_spec.specs.declared.errors.ToolError.TheVariants.{TooLong}
use Rattle.hwdb_spec_commands.specs.CommandLine.{hwdb_app}
use Rattle.hwdb_spec_commands.specs.DeviceTree.{Sight}
use Rattle.hwdb_spec_commands.specs.NearAsked.{near_form}
use Rattle.hwdb_spec_commands.specs.SysfsAnswers.{nothing_there, seen}
use Rattle.hwdb_spec_commands.specs.Told.Stop.{NoDatabase, Over, Says}
use Rattle.hwdb_spec_commands.specs.declared.devices.DeviceForm.TheVariants.{Json, Lookups, Pattern, Strings}
use Rattle.hwdb_spec_commands.specs.declared.unread.Unread.TheVariants as unread
use Rattle.hwdb_spec_program.specs.DeviceErrors.{asked_names}
use Rattle.hwdb_spec_program.specs.GivenDatabases.{twice_text}
use Rattle.hwdb_spec_program.specs.ProgramPlan.{AskedUpdate, error_status, program_plan, update_of}
use Rattle.hwdb_plan.specs.Requests.{Around}
use Rattle.hwdb_spec_rules.specs.declared.forms.Whose.TheVariants.{BuiltIn, Own, OwnFirst}
use Rattle.hwdb_plan.specs.Answers.{explain_plan, query_plan}
use Rattle.hwdb_plan.specs.Ask.{ask_plan}
use Rattle.hwdb_plan.specs.Check.{check_plan, said_of}
use Rattle.hwdb_plan.specs.Baseline.{over_baseline}
use Rattle.hwdb_plan.specs.Device.{asks as own_form, device_plan, strings_plan}
use Rattle.hwdb_plan.specs.Sysfs.{says}
use Rattle.hwdb_plan.specs.Diff.{change_of, diff_plan}
use Rattle.hwdb_spec_commands.specs.Reviews.{Review}
use Rattle.hwdb_spec_commands.specs.declared.args.Layout.TheVariants.{Grouped, Lines}
use Rattle.hwdb_plan.specs.Dump.{dump_plan}
use Rattle.hwdb_plan.specs.Folders.{texts_of_folders}
use Rattle.hwdb_plan.specs.Keys.{keys_plan}
use Rattle.hwdb_plan.specs.List.{list_plan}
use Rattle.hwdb_plan.specs.Near.{near_plan}
use Rattle.hwdb_plan.specs.OverText.{replaced_of, said_after}
use Rattle.hwdb_plan.specs.Plans.{Plan, over}
use Rattle.hwdb_plan.specs.Plans.End.{Answers, Scans, Stops}
use Rattle.hwdb_plan.specs.Plans.Plan.{Database, Done}
use Rattle.hwdb_plan.specs.Sides.{made_of, taken_from}
use Rattle.hwdb_plan.specs.Status.{status_plan}
use Rattle.hwdb_plan.specs.Asking.{named}
use Rattle.hwdb_plan.specs.Record.{devices_plan, recorded}
use Rattle.hwdb_plan.specs.Test.{test_plan}
use Rattle.hwdb_plan.specs.Verify.{verify_plan}
use Rattle.hwdb_spec_commands.specs.declared.formats.Format.TheVariants.{Json as JsonLines, Patch, Sarif, Text as Reports}

-- the plan of a run with these words after the program's name
abbrev pub asked : Around → (words : List Text) → Option Plan
asked a words = program_plan a (codes "hwdb" ∷ words)

-- ---- which plan words ask for
-- The root is given after the command's word, before it, or not. What comes after `--` is a device.
abbrev pub QueryRows : Type 0
QueryRows =
    (a : Around)
    → asked a (codes "query" ∷ codes "--json" ∷ codes "-r" ∷ codes "/r" ∷ codes "a" ∷ codes "--" ∷ codes "--b" ∷ []) ∷ asked a (codes "-r/s" ∷ codes "explain" ∷ codes "a" ∷ []) ∷ asked a (codes "query" ∷ codes "-" ∷ []) ∷ []
    ≡ Some (query_plan (codes "/r") true (codes "a" ∷ codes "--b" ∷ [])) ∷ Some (explain_plan (codes "/s") false (codes "a")) ∷ Some (query_plan [] false (codes "-" ∷ [])) ∷ []

abbrev pub ListRows : Type 0
ListRows =
    (a : Around)
    → asked a (codes "list" ∷ codes "--after" ∷ codes "3:17::" ∷ codes "--limit=10" ∷ codes "a" ∷ []) ∷ asked a (codes "list" ∷ codes "--json" ∷ codes "a" ∷ []) ∷ []
    ≡ Some (list_plan [] false (codes "a") (Some (codes "3:17::")) (Some 10)) ∷ Some (list_plan [] true (codes "a") None None) ∷ []

-- The last word of `near` is the device, and three patterns are told if no number is given.
abbrev pub NearRows : Type 0
NearRows =
    (a : Around)
    → asked a (codes "near" ∷ codes "--limit" ∷ codes "7" ∷ codes "f" ∷ codes "g" ∷ codes "a" ∷ []) ∷ asked a (codes "near" ∷ codes "--json" ∷ codes "a" ∷ []) ∷ []
    ≡ Some (near_plan a.input (codes "f" ∷ codes "g" ∷ []) [] (near_form false (codes "a") 7)) ∷ Some (near_plan a.input [] [] (near_form true (codes "a") 3)) ∷ []

abbrev pub DeviceRows : Type 0
DeviceRows =
    (a : Around)
    → asked a (codes "device" ∷ codes "--strings" ∷ codes "--pattern" ∷ codes "event3" ∷ []) ∷ asked a (codes "device" ∷ codes "-r" ∷ codes "/r" ∷ [])
    ∷ asked a (codes "device" ∷ codes "--all" ∷ codes "--strings" ∷ codes "-r/r" ∷ []) ∷ asked a (codes "device" ∷ codes "--strings" ∷ codes "--all" ∷ codes "event3" ∷ [])
    ∷ asked a (codes "device" ∷ codes "--all" ∷ codes "--strings" ∷ codes "--json" ∷ []) ∷ asked a (codes "device" ∷ codes "--udev=built-in" ∷ codes "event3" ∷ [])
    ∷ asked a (codes "device" ∷ codes "--udev" ∷ codes "system" ∷ codes "event3" ∷ []) ∷ asked a (codes "device" ∷ codes "--udev=system" ∷ codes "--all" ∷ codes "--strings" ∷ []) ∷ []
    ≡ Some (device_plan a.sight a.cause asked_names [] (OwnFirst Pattern) (Some (codes "event3"))) ∷ Some (device_plan a.sight a.cause asked_names (codes "/r") (OwnFirst Lookups) None)
    ∷ Some (strings_plan a.sight a.cause asked_names (codes "/r") (OwnFirst Strings)) ∷ Some (says (codes "--all and DEVICE are two choices: leave out one of them"))
    ∷ Some (says (codes "--all needs --strings, without --json and --pattern")) ∷ Some (device_plan a.sight a.cause asked_names [] (BuiltIn Lookups) (Some (codes "event3")))
    ∷ Some (device_plan a.sight a.cause asked_names [] (Own (own_form Lookups)) (Some (codes "event3"))) ∷ Some (strings_plan a.sight a.cause asked_names [] (Own (own_form Strings))) ∷ []

-- Files and databases that words name.
abbrev pub NamedRows : Type 0
NamedRows =
    (a : Around)
    → asked a (codes "ask" ∷ codes "f" ∷ codes "a" ∷ []) ∷ asked a (codes "verify" ∷ codes "d" ∷ []) ∷ asked a (codes "dump" ∷ codes "-r" ∷ codes "/r" ∷ [])
    ∷ asked a (codes "test" ∷ codes "--database" ∷ codes "d" ∷ codes "f" ∷ codes "g" ∷ []) ∷ []
    ≡ Some (ask_plan (codes "f") (codes "a") (codes "f")) ∷ Some (verify_plan (Some (codes "d")) []) ∷ Some (dump_plan None (codes "/r"))
    ∷ Some (test_plan a.input (codes "f" ∷ codes "g" ∷ []) (Some (codes "d")) [] false) ∷ []

-- With `--record` the words of `test` are devices, and a lone `-` is standard input. JSON is an error before anything is asked.
abbrev pub RecordRows : Type 0
RecordRows =
    (a : Around)
    → asked a (codes "test" ∷ codes "--record" ∷ codes "f" ∷ codes "-" ∷ []) ∷ asked a (codes "-r/r" ∷ codes "test" ∷ codes "--database=d" ∷ codes "-" ∷ codes "--record" ∷ [])
    ∷ asked a (codes "test" ∷ codes "--record" ∷ codes "--json" ∷ codes "-" ∷ []) ∷ []
    ≡ Some (named None [] (recorded (codes "f" ∷ codes "-" ∷ []))) ∷ Some (devices_plan a.input (codes "-" ∷ []) (Some (codes "d")) (codes "/r"))
    ∷ Some (Done (Stops (Says (codes "--record prints a test file, which is never JSON: leave out --json")))) ∷ []

-- Kinds that are allowed are told as they are given, and `--strict` may stand before the command's word.
abbrev pub CheckRows : Type 0
CheckRows =
    (a : Around)
    → asked a (codes "--strict" ∷ codes "check" ∷ codes "--allow" ∷ codes "near-name" ∷ codes "-r" ∷ codes "/r" ∷ codes "--allow=scan-code" ∷ codes "f" ∷ codes "-" ∷ []) ∷ asked a (codes "check" ∷ codes "--json" ∷ [])
    ∷ asked a (codes "check" ∷ codes "--format" ∷ codes "sarif" ∷ []) ∷ asked a (codes "check" ∷ codes "--diff" ∷ []) ∷ []
    ≡ Some (check_plan a.input (codes "f" ∷ codes "-" ∷ []) (codes "/r") (said_of Reports true (codes "near-name" ∷ codes "scan-code" ∷ []) None [])) ∷ Some (check_plan a.input [] [] (said_of JsonLines false [] None []))
    ∷ Some (check_plan a.input [] [] (said_of Sarif false [] None [])) ∷ Some (check_plan a.input [] [] (said_of Patch false [] None [])) ∷ []

-- A path of a baseline, and a name for standard input. If no file is that, nothing is asked, and this is said.
abbrev pub BaselineRows : Type 0
BaselineRows =
    (a : Around)
    → asked a (codes "check" ∷ codes "--baseline" ∷ codes "b" ∷ codes "f" ∷ []) ∷ asked a (codes "check" ∷ codes "--name" ∷ codes "n" ∷ codes "-" ∷ codes "--baseline=b" ∷ [])
    ∷ asked a (codes "check" ∷ codes "--name=n" ∷ codes "--baseline=b" ∷ codes "f" ∷ []) ∷ asked a (codes "check" ∷ codes "--name=n" ∷ []) ∷ []
    ≡ Some (over_baseline (Some (codes "b")) (λ known. check_plan a.input (codes "f" ∷ []) [] (said_of Reports false [] None known)))
    ∷ Some (over_baseline (Some (codes "b")) (λ known. check_plan a.input (codes "-" ∷ []) [] (said_of Reports false [] (Some (codes "n")) known)))
    ∷ Some (Done (Stops (Says (codes "--name names standard input: give - as FILE")))) ∷ Some (Done (Stops (Says (codes "--name names standard input: give - as FILE")))) ∷ []

-- how changes are counted, and how some are chosen
abbrev pub counting : Review
counting = record { json = false; stat = true; layout = Grouped; verbose = false; samples = false; only = []; without = []; prefixes = [] }

abbrev pub chosen : Review
chosen = record {
  json = true;
  stat = false;
  layout = Lines;
  verbose = true;
  samples = false;
  only = codes "6*" ∷ [];
  without = codes "20-*" ∷ codes "30-*" ∷ [];
  prefixes = codes "evdev:" ∷ [];
}

-- Files of devices are told as they are given, and both sides by their places. Two of `diff` that are `-` are an error before anything is
-- asked.
abbrev pub DiffRows : Type 0
DiffRows =
    (a : Around)
    → asked a (codes "diff" ∷ codes "--stat" ∷ codes "--devices" ∷ codes "f" ∷ codes "--devices=g" ∷ codes "o" ∷ codes "n" ∷ []) ∷ asked a (codes "diff" ∷ codes "--json" ∷ codes "--not" ∷ codes "20-*" ∷ codes "--only=6*" ∷ codes "o" ∷ codes "--not=30-*" ∷ codes "-" ∷ codes "--prefix" ∷ codes "evdev:" ∷ codes "--verbose" ∷ codes "--format=lines" ∷ [])
    ∷ asked a (codes "diff" ∷ codes "-" ∷ codes "-" ∷ []) ∷ []
    ≡ Some (diff_plan a.input (codes "f" ∷ codes "g" ∷ []) (codes "o") (codes "n") (change_of counting)) ∷ Some (diff_plan a.input [] (codes "o") (codes "-") (change_of chosen))
    ∷ Some (Done (Stops (Says twice_text))) ∷ []

-- Whether the database is fresh: `update --check` asks what `status` asks, and is told the status alone.
abbrev pub FreshRows : Type 0
FreshRows =
    (a : Around)
    → asked a (codes "status" ∷ codes "--json" ∷ codes "-r" ∷ codes "/r" ∷ []) ∷ asked a (codes "-r/r" ∷ codes "update" ∷ codes "--check" ∷ []) ∷ asked a (codes "status" ∷ []) ∷ []
    ≡ Some (status_plan (codes "/r") true false) ∷ Some (status_plan (codes "/r") false true) ∷ Some (status_plan [] false false) ∷ []

-- Words of keys. Without one all keys are asked for, whatever the root is.
abbrev pub KeysRows : Type 0
KeysRows =
    (a : Around)
    → asked a (codes "keys" ∷ codes "super" ∷ codes "--json" ∷ codes "f1" ∷ []) ∷ asked a (codes "-r/r" ∷ codes "keys" ∷ []) ∷ []
    ≡ Some (keys_plan true (codes "super" ∷ codes "f1" ∷ [])) ∷ Some (keys_plan false []) ∷ []

-- Events of a device below a root, of a path, and of standard input. A count is a number.
abbrev pub ScanRows : Type 0
ScanRows =
    (a : Around)
    → asked a (codes "scan" ∷ codes "--count=2" ∷ codes "event4" ∷ []) ∷ asked a (codes "-r/r" ∷ codes "scan" ∷ codes "event4" ∷ []) ∷ asked a (codes "scan" ∷ codes "./f" ∷ [])
    ∷ asked a (codes "scan" ∷ codes "--root" ∷ codes "r" ∷ codes "./f" ∷ []) ∷ asked a (codes "scan" ∷ codes "--root=/r" ∷ codes "-" ∷ []) ∷ []
    ≡ Some (Done (Scans (Some (codes "/dev/input/event4")) (Some 2))) ∷ Some (Done (Scans (Some (codes "/r/dev/input/event4")) None)) ∷ Some (Done (Scans (Some (codes "./f")) None))
    ∷ Some (Done (Scans (Some (codes "r/./f")) None)) ∷ Some (Done (Scans None None)) ∷ []

-- Words that ask for no command, or for an update.
abbrev pub NoneRows : Type 0
NoneRows =
    (a : Around) → asked a [] ∷ asked a (codes "frob" ∷ []) ∷ asked a (codes "update" ∷ codes "--verbose" ∷ []) ∷ [] ≡ None ∷ None ∷ None ∷ []

-- ---- `--text`
-- What the option makes of a plan below a root, if nothing is said besides. The text files of both folders are read and compiled as an
-- update would do it, and what is asked first has these bytes.
abbrev pub over_text : (root first : List ℕ) → Plan → Plan
over_text root first p =
    texts_of_folders root
    (λ texts. made_of (taken_from true texts.chosen texts.texts) (taken_from false texts.chosen texts.texts) (λ made. said_after [] (over (λ path. bytes_eq path first) made p)))

-- The root may be given before the command's word.
abbrev pub TextRows : Type 0
TextRows =
    (a : Around) →
    let etc = over_text [] (codes "/etc/udev/hwdb.bin") in
    asked a (codes "query" ∷ codes "--text" ∷ codes "a" ∷ []) ∷ asked a (codes "-r/r" ∷ codes "query" ∷ codes "--text" ∷ codes "-" ∷ []) ∷ asked a (codes "list" ∷ codes "--text" ∷ codes "a" ∷ [])
    ∷ asked a (codes "near" ∷ codes "--text" ∷ codes "a" ∷ []) ∷ asked a (codes "device" ∷ codes "--text" ∷ codes "event3" ∷ []) ∷ asked a (codes "test" ∷ codes "--text" ∷ codes "f" ∷ [])
    ∷ asked a (codes "verify" ∷ codes "--text" ∷ []) ∷ asked a (codes "dump" ∷ codes "--text" ∷ codes "--root=/r" ∷ []) ∷ asked a (codes "explain" ∷ codes "--text" ∷ codes "-" ∷ []) ∷ []
    ≡ Some (etc (query_plan [] false (codes "a" ∷ []))) ∷ Some (over_text (codes "/r") (codes "/r/etc/udev/hwdb.bin") (query_plan (codes "/r") false (codes "-" ∷ []))) ∷ Some (etc (list_plan [] false (codes "a") None None))
    ∷ Some (etc (near_plan a.input [] [] (near_form false (codes "a") 3))) ∷ Some (etc (device_plan a.sight a.cause asked_names [] (OwnFirst Lookups) (Some (codes "event3")))) ∷ Some (etc (test_plan a.input (codes "f" ∷ []) None [] false))
    ∷ Some (etc (verify_plan None [])) ∷ Some (over_text (codes "/r") (codes "/r/etc/udev/hwdb.bin") (dump_plan None (codes "/r"))) ∷ Some (etc (explain_plan [] false (codes "-"))) ∷ []

-- Words that name another source, or a list of devices: nothing is asked, and this is said of them.
abbrev pub MisuseRows : Type 0
MisuseRows =
    (a : Around) →
    let said = λ (text : List ℕ). Some (Done (Stops (Says text))) in
    let file = codes "--text and FILE are two sources: leave out one of them" in
    let database = codes "--text and DATABASE are two sources: leave out one of them" in
    asked a (codes "near" ∷ codes "--text" ∷ codes "f" ∷ codes "a" ∷ []) ∷ asked a (codes "device" ∷ codes "--text" ∷ []) ∷ asked a (codes "test" ∷ codes "--database=d" ∷ codes "--text" ∷ codes "f" ∷ [])
    ∷ asked a (codes "verify" ∷ codes "--text" ∷ codes "d" ∷ []) ∷ asked a (codes "dump" ∷ codes "-" ∷ codes "--text" ∷ []) ∷ []
    ≡ said file ∷ said (codes "--text needs DEVICE or --all: a list of devices asks no database") ∷ said (codes "--text and --database are two sources: leave out one of them") ∷ said database ∷ said database ∷ []

-- What `explain` says besides of a device comes after what the database gives it.
abbrev pub BesidesRows : Type 0
BesidesRows =
    (a : Around)
    → asked a (codes "explain" ∷ codes "--text" ∷ codes "--json" ∷ codes "a" ∷ []) ∷ []
    ≡ Some (texts_of_folders []
    (λ texts. made_of (taken_from true texts.chosen texts.texts) (taken_from false texts.chosen texts.texts)
    (λ made. said_after (replaced_of true (codes "a") texts) (over (λ path. bytes_eq path (codes "/etc/udev/hwdb.bin")) made (explain_plan [] true (codes "a")))))) ∷ []

-- An answer alone is followed by what is said after it.
abbrev pub AfterRows : Type 0
AfterRows =
    said_after (codes "b") (Done (Answers 1 (codes "e") (codes "a"))) ∷ said_after (codes "b") (Done (Stops NoDatabase)) ∷ said_after (codes "b") (Database (codes "d") (λ found. Done (Answers 0 [] []))) ∷ []
    ≡ Done (Answers 1 (codes "e") (codes "ab")) ∷ Done (Stops NoDatabase) ∷ Database (codes "d") (λ found. Done (Answers 0 [] (codes "b"))) ∷ []

-- the update that these words ask for, after the program's name
abbrev pub asks : (words : List Text) → Option AskedUpdate
asks words = update_of (codes "hwdb" ∷ words)

-- one of these
abbrev pub an_update : (root : List ℕ) (usr strict verbose skip : Bool) → Option AskedUpdate
an_update root usr strict verbose skip = Some (record { root = root; usr = usr; strict = strict; verbose = verbose; skip = skip })

-- What an update is asked for. The root, `--usr` and `--strict` are given after its word, before it, or not. The root after it counts if
-- there are two.
abbrev pub UpdateRows : Type 0
UpdateRows =
    asks (codes "update" ∷ []) ∷ asks (codes "update" ∷ codes "--usr" ∷ []) ∷ asks (codes "--usr" ∷ codes "update" ∷ []) ∷ asks (codes "update" ∷ codes "--strict" ∷ []) ∷ asks (codes "--strict" ∷ codes "update" ∷ [])
    ∷ asks (codes "update" ∷ codes "--root" ∷ codes "/r" ∷ codes "--skip-unreadable" ∷ []) ∷ asks (codes "-r/r" ∷ codes "update" ∷ codes "--verbose" ∷ [])
    ∷ asks (codes "--root=/r" ∷ codes "--usr" ∷ codes "update" ∷ codes "--strict" ∷ codes "--root=/s" ∷ codes "--verbose" ∷ []) ∷ []
    ≡ an_update [] false false false false ∷ an_update [] true false false false ∷ an_update [] true false false false ∷ an_update [] false true false false ∷ an_update [] false true false false
    ∷ an_update (codes "/r") false false false true ∷ an_update (codes "/r") false false true false ∷ an_update (codes "/s") true true true false ∷ []

-- Words that ask for none: with `--check`, of another command, of which it is the argument, or of no command.
abbrev pub NoUpdateRows : Type 0
NoUpdateRows =
    asks (codes "update" ∷ codes "--check" ∷ []) ∷ asks (codes "-r/r" ∷ codes "update" ∷ codes "--check" ∷ []) ∷ asks (codes "status" ∷ []) ∷ asks (codes "query" ∷ codes "update" ∷ [])
    ∷ asks (codes "keys" ∷ codes "update" ∷ []) ∷ asks [] ∷ [] ≡ None ∷ None ∷ None ∷ None ∷ None ∷ None ∷ []

-- ---- statuses
-- The status of an error, as EXIT STATUS of hwdb(8) has it: 2 of `diff` and `check`, whose 1 says that something changed or was found.
abbrev pub StatusRows : Type 0
StatusRows =
    let status = λ (words : List Text). error_status (subcommand_of hwdb_app (codes "hwdb" ∷ words)) in
    status (codes "diff" ∷ codes "a" ∷ codes "b" ∷ []) ∷ status (codes "--strict" ∷ codes "check" ∷ codes "f" ∷ []) ∷ status (codes "-r/r" ∷ codes "query" ∷ codes "diff" ∷ []) ∷ status [] ∷ [] ≡ 2 ∷ 2 ∷ 1 ∷ 1 ∷ []

-- ---- what a plan ends in
-- `-` is standard input: that is too long, and nothing else is asked.
abbrev pub InputRows : Type 0
InputRows =
    (sight : Sight) (cause : List ℕ) → let a : Around = record { input = Err unread.TooLong; sight = sight; cause = cause } in
    asked a (codes "verify" ∷ codes "-" ∷ []) ∷ asked a (codes "dump" ∷ codes "-" ∷ []) ∷ asked a (codes "ask" ∷ codes "-" ∷ codes "a" ∷ []) ∷ []
    ≡ Some (Done (Stops (Over TooLong (codes "standard input") None))) ∷ Some (Done (Stops (Over TooLong (codes "standard input") None))) ∷ Some (Done (Stops (Over TooLong (codes "standard input") None))) ∷ []

-- a file system in which this path alone leads somewhere, to itself
abbrev pub sight_of : (place : List ℕ) → Sight
sight_of place = record (seen nothing_there) { place = λ path. if bytes_eq path place then Some path else None }

-- No sysfs, and one without its folder of devices: the path that leads nowhere is told, and the words of the cause.
abbrev pub SysfsRows : Type 0
SysfsRows =
    device_plan (seen nothing_there) (codes "No such file or directory") asked_names (codes "/r") (OwnFirst Json) (Some (codes "event3"))
    ∷ device_plan (sight_of (codes "/sys")) (codes "Permission denied") asked_names [] (BuiltIn Lookups) None ∷ []
    ≡ Done (Stops (Says (codes "no sysfs: /r/sys: No such file or directory: mount it, or name another root")))
    ∷ Done (Stops (Says (codes "no sysfs: /sys/devices: Permission denied: mount it, or name another root"))) ∷ []
