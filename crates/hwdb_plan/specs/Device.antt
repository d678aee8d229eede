-- The plan of `device`, by what it asks of sysfs. Our choice.
use Rattle.std.specs.Prelude.{ℕ, Bool, true, false, if◌then◌else◌, List, [], None, Option, Some, codes}
use Rattle.hwdb_spec.specs.Folders.{Source}
use Rattle.hwdb_spec_commands.specs.AllStrings.{unread_lines}
use Rattle.hwdb_spec_commands.specs.DeviceAsked.{device_list}
use Rattle.hwdb_spec_commands.specs.DeviceTexts.{device_text}
use Rattle.hwdb_spec_commands.specs.DeviceTree.{Sight, device_at}
use Rattle.hwdb_spec_commands.specs.Sysfs.{Device}
use Rattle.hwdb_spec_commands.specs.declared.devices.DeviceForm.{DeviceForm}
use Rattle.hwdb_spec_commands.specs.declared.devices.DeviceForm.TheVariants as form
use Rattle.hwdb_spec_rules.specs.RuleAnswers.{all_asked_text, files_of, needs_device, rules_misuse, rules_names, shown_text, whose}
use Rattle.hwdb_spec_rules.specs.RuleStrings.{RulesFile}
use Rattle.hwdb_spec_rules.specs.declared.forms.RulesForm.{RulesForm}
use Rattle.hwdb_spec_rules.specs.declared.forms.Whose.{Whose}
use Rattle.hwdb_spec_rules.specs.declared.forms.Whose.TheVariants.{BuiltIn, Own, OwnFirst}
use Rattle.hwdb_plan.specs.Asking.{asked}
use Rattle.hwdb_plan.specs.Dump.{bad_database}
use Rattle.hwdb_plan.specs.OwnRules.{has_none, own_rules}
use Rattle.hwdb_plan.specs.Plans.{Next, Plan}
use Rattle.hwdb_plan.specs.Plans.End.{Answers}
use Rattle.hwdb_plan.specs.Plans.Plan.{Decode, Done}
use Rattle.hwdb_plan.specs.Requests.{Search, found_plan}
use Rattle.hwdb_plan.specs.Requests.Search.{AtPlace, Below, Fitting, Found}
use Rattle.hwdb_plan.specs.Sysfs.{says}

-- ---- what is printed
-- what the database gives a device by the rules that are built in, in some form
abbrev pub device_answer : DeviceForm → Device → Next
device_answer form device path bytes = Decode bytes (bad_database path) (λ t. Done (Answers 0 [] (device_text form device t)))

-- what it gives a device whose strings rules files ask, or why they ask
abbrev pub rules_answer : RulesForm → List Source → Device → Next
rules_answer form sources device path bytes = Decode bytes (bad_database path) (λ t. Done (Answers 0 [] (shown_text form sources device t)))

-- what it gives all devices, by these rules files or without files by the rules that are built in; and what is said of devices that can't be
-- read
abbrev pub strings_answer : Sight → (files : Option (List RulesFile)) (names : List (List ℕ)) (sys : List ℕ) → Next
strings_answer sight files names sys path bytes =
    Decode bytes (bad_database path) (λ t. Done (Answers 0 (unread_lines sight sys) (all_asked_text files sight names sys t)))

-- ---- the device at a place, or without a place all devices
-- by the rules that are built in
abbrev pub by_built_in : Sight → (names : List (List ℕ)) (root : List ℕ) → DeviceForm → (sys : List ℕ) (place : Option (List ℕ)) → Plan
by_built_in sight names root form sys None = asked root (strings_answer sight None names sys)
by_built_in sight names root form sys (Some place) = asked root (device_answer form (device_at sight names sys place))

-- by these rules files: they say which attributes are read
abbrev pub by_files : Sight → (root : List ℕ) → RulesForm → (sys : List ℕ) (place : Option (List ℕ)) → List Source → Plan
by_files sight root form sys None sources = asked root (strings_answer sight (Some (files_of sources)) (rules_names sources) sys)
by_files sight root form sys (Some place) sources = asked root (rules_answer form sources (device_at sight (rules_names sources) sys place))

-- what they ask, in some form
abbrev pub asks : DeviceForm → RulesForm
asks form = record { why = false; form = form }

-- by these files, or if there are none by the rules that are built in
abbrev pub by_files_first : Sight → (names : List (List ℕ)) (root : List ℕ) → DeviceForm → (sys : List ℕ) (place : Option (List ℕ)) → List Source → Plan
by_files_first sight names root form sys place sources =
    if has_none sources then by_built_in sight names root form sys place else by_files sight root (asks form) sys place sources

-- by the rules that count: the machine's own ones are read after it is known where sysfs and the device are
abbrev pub by_rules : Sight → (names : List (List ℕ)) (root : List ℕ) → Whose → (sys : List ℕ) (place : Option (List ℕ)) → Plan
by_rules sight names root (Own form) sys place = own_rules root (by_files sight root form sys place)
by_rules sight names root (OwnFirst form) sys place = own_rules root (by_files_first sight names root form sys place)
by_rules sight names root (BuiltIn form) sys place = by_built_in sight names root form sys place

-- ---- the device that is meant
-- a line for each device
abbrev pub devices_search : Sight → (names : List (List ℕ)) (root : List ℕ) → Search
devices_search sight names root = Below root (λ sys. Found (Done (Answers 0 [] (device_list sight names sys))))

-- the device that a path or a name means, by the rules that count
abbrev pub meant_search : Sight → (names : List (List ℕ)) (root given : List ℕ) → Whose → Search
meant_search sight names root given rules =
    Below root (λ sys. AtPlace root given sys (λ place. Found (by_rules sight names root rules sys (Some place))))

-- that one, or if none is given the list
abbrev pub device_search : Sight → (names : List (List ℕ)) (root : List ℕ) → Whose → (given : Option (List ℕ)) → Search
device_search sight names root rules None = devices_search sight names root
device_search sight names root rules (Some given) = meant_search sight names root given rules

-- ---- the strings of all devices
-- those of sysfs below a root, over the database that is asked: that is read once
abbrev pub strings_search : Sight → (names : List (List ℕ)) (root : List ℕ) → Whose → Search
strings_search sight names root rules = Below root (λ sys. Found (by_rules sight names root rules sys None))

-- what is said of `--all`, if it is given with a device or without `--strings`
abbrev pub all_misuse : DeviceForm → (given : Option (List ℕ)) → Option (List ℕ)
all_misuse form (Some given) = Some (codes "--all and DEVICE are two choices: leave out one of them")
all_misuse form.Strings None = None
all_misuse form None = Some (codes "--all needs --strings, without --json and --pattern")

-- that, or else the strings
abbrev pub every_search : Sight → (names : List (List ℕ)) (root : List ℕ) → DeviceForm → Whose → (given : Option (List ℕ)) → Search
every_search sight names root form rules given = Fitting (all_misuse form given) (strings_search sight names root rules)

-- ---- the machine's own rules alone
-- what they ask for all devices, or for the one that is given
abbrev pub rules_search : Sight → (names : List (List ℕ)) (root : List ℕ) → RulesForm → (all : Bool) (given : Option (List ℕ)) → Search
rules_search sight names root form true given = every_search sight names root form.form (Own form) given
rules_search sight names root form false None = Found (says (needs_device form.why))
rules_search sight names root form false (Some given) = meant_search sight names root given (Own form)

-- that, if the words fit
abbrev pub own_search : Sight → (names : List (List ℕ)) (root : List ℕ) → RulesForm → (udev given : Option (List ℕ)) (all from : Bool) → Search
own_search sight names root form udev given all from = Fitting (rules_misuse form udev given all from) (rules_search sight names root form all given)

-- ---- what words ask for
-- with `--all` the strings of all devices, and else one device or the list
abbrev pub search_of : Sight → (names : List (List ℕ)) (root : List ℕ) → DeviceForm → (udev : Option (List ℕ)) (all : Bool) (given : Option (List ℕ)) → Search
search_of sight names root form udev true given = every_search sight names root form (whose udev form) given
search_of sight names root form udev false given = device_search sight names root (whose udev form) given

-- ---- the plans of these
abbrev pub devices_plan : Sight → (cause : List ℕ) (names : List (List ℕ)) (root : List ℕ) → Plan
devices_plan sight cause names root = found_plan sight names cause (devices_search sight names root)

abbrev pub meant_plan : Sight → (cause : List ℕ) (names : List (List ℕ)) (root given : List ℕ) → Whose → Plan
meant_plan sight cause names root given rules = found_plan sight names cause (meant_search sight names root given rules)

abbrev pub device_plan : Sight → (cause : List ℕ) (names : List (List ℕ)) (root : List ℕ) → Whose → (given : Option (List ℕ)) → Plan
device_plan sight cause names root rules given = found_plan sight names cause (device_search sight names root rules given)

abbrev pub strings_plan : Sight → (cause : List ℕ) (names : List (List ℕ)) (root : List ℕ) → Whose → Plan
strings_plan sight cause names root rules = found_plan sight names cause (strings_search sight names root rules)

abbrev pub every_plan : Sight → (cause : List ℕ) (names : List (List ℕ)) (root : List ℕ) → DeviceForm → Whose → (given : Option (List ℕ)) → Plan
every_plan sight cause names root form rules given = found_plan sight names cause (every_search sight names root form rules given)

abbrev pub device_asked : Sight → (cause : List ℕ) (names : List (List ℕ)) (root : List ℕ) → DeviceForm → (udev : Option (List ℕ)) (all : Bool) (given : Option (List ℕ)) → Plan
device_asked sight cause names root form udev all given = found_plan sight names cause (search_of sight names root form udev all given)

abbrev pub own_plan : Sight → (cause : List ℕ) (names : List (List ℕ)) (root : List ℕ) → RulesForm → (udev given : Option (List ℕ)) (all from : Bool) → Plan
own_plan sight cause names root form udev given all from = found_plan sight names cause (own_search sight names root form udev given all from)

abbrev pub by_rules_plan : Sight → (cause : List ℕ) (names : List (List ℕ)) (root : List ℕ) → RulesForm → (all : Bool) (given : Option (List ℕ)) → Plan
by_rules_plan sight cause names root form all given = found_plan sight names cause (rules_search sight names root form all given)
