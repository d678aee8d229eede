-- What `device` and `device --why` print by the rules files that count, and whose these are. The options are our choice.
use Rattle.std.specs.Option.{option_map_or}
use Rattle.std.specs.Prelude.{List, [], ◌∷◌, ◌++◌, Bool, true, false, if◌then◌else◌, ℕ, ◌-◌, codes, flat_map, is_some, length, map, take, Option, Some, None}
use Rattle.std.specs.Str.{bytes_eq}
use Rattle.hwdb_spec.specs.Folders.{Source}
use Rattle.hwdb_spec.specs.Lines.{byte, is, pieces}
use Rattle.hwdb_spec.specs.Tree.{Tree}
use Rattle.hwdb_spec_commands.specs.AllStrings.{strings_of, with_texts}
use Rattle.hwdb_spec_commands.specs.DeviceTexts.{found_form, line_of, text_of, told_by}
use Rattle.hwdb_spec_commands.specs.DeviceTree.{Sight, all_links, device_at, device_of_path}
use Rattle.hwdb_spec_commands.specs.NearAsked.{database_patterns}
use Rattle.hwdb_spec_commands.specs.Sysfs.{Device}
use Rattle.hwdb_spec_commands.specs.declared.devices.DeviceForm.{DeviceForm}
use Rattle.hwdb_spec_commands.specs.declared.devices.DeviceForm.TheVariants as Forms
use Rattle.hwdb_rulecommands.specs.Settable.{last_name}
use Rattle.hwdb_spec_rules.specs.declared.forms.RulesForm.{RulesForm}
use Rattle.hwdb_spec_rules.specs.declared.forms.Whose.{Whose}
use Rattle.hwdb_spec_rules.specs.declared.forms.Whose.TheVariants.{BuiltIn, OwnFirst}
use Rattle.hwdb_rulefiles.specs.RuleFiles.{parsed}
use Rattle.hwdb_rulefiles.specs.RuleKeys.{or_else}
use Rattle.hwdb_spec_rules.specs.RuleNames.{names_read}
use Rattle.hwdb_spec_rules.specs.RuleStrings.{RulesFile, found_by_rules, lines_in, whys_by_rules}
use Rattle.hwdb_spec_rules.specs.RuleWhys.{whys_form}

-- the name of a rules file without its folder and its ending, which has six bytes
abbrev pub without_ending : List ℕ → List ℕ
without_ending name = take (length name - 6) name

-- a rules file that was read
abbrev pub file_of : Source → RulesFile
file_of s = record { name = without_ending (last_name s.name); lines = (parsed s.bytes).lines }

-- the rules files that were read
abbrev pub files_of : List Source → List RulesFile
files_of sources = map file_of sources

-- the names of the attributes that they read, a line each
abbrev pub names_text : List (List ℕ) → List ℕ
names_text names = flat_map (λ (name : List ℕ). name ++ byte "\n" ∷ []) names

-- those names, as the device is read by them
abbrev pub rules_names : List Source → List (List ℕ)
rules_names sources = pieces (is (byte "\n")) (names_text (names_read (lines_in (files_of sources))))

-- what is printed of a device
abbrev pub rules_text : DeviceForm → List Source → Device → Tree → List ℕ
rules_text form sources d t = found_form form d (database_patterns t) (found_by_rules (told_by t) (files_of sources) d)

-- why lines ask or don't, or what they ask
abbrev pub shown_text : RulesForm → List Source → Device → Tree → List ℕ
shown_text f sources d t =
    if f.why then whys_form f.form (whys_by_rules (told_by t) (files_of sources) d) else rules_text f.form sources d t

-- ---- the strings of all devices

-- the strings that are asked for a device by these rules files, or without files by the rules that are built in
abbrev pub strings_asked : (files : Option (List RulesFile)) → Device → Tree → List (List ℕ)
strings_asked None d t = strings_of d t
strings_asked (Some files) d t = map text_of (found_by_rules (told_by t) files d)

-- those of the device that a link of sysfs leads to
abbrev pub asked_at : (files : Option (List RulesFile)) → Sight → (names : List (List ℕ)) (sys : List ℕ) → Tree → (link : List ℕ) → List (List ℕ)
asked_at files sight names sys t link = option_map_or (λ place. strings_asked files (device_at sight names sys place) t) (device_of_path sight sys link) []

-- those of all devices, each once, in the order of the list and of a device's strings
abbrev pub all_asked : (files : Option (List RulesFile)) → Sight → (names : List (List ℕ)) (sys : List ℕ) → Tree → List (List ℕ)
all_asked files sight names sys t = with_texts [] (flat_map (asked_at files sight names sys t) (all_links sight sys))

-- what is printed: a line for each
abbrev pub all_asked_text : (files : Option (List RulesFile)) → Sight → (names : List (List ℕ)) (sys : List ℕ) → Tree → List ℕ
all_asked_text files sight names sys t = flat_map line_of (all_asked files sight names sys t)

-- ---- words

-- whether the words ask for the machine's own rules
abbrev pub wants_rules : (why : Bool) (udev : Option (List ℕ)) → Bool
wants_rules why None = why
wants_rules why (Some which) = if bytes_eq which (codes "built-in") then why else true

-- Whose rules count for a device, if the words don't ask for the machine's own. If they name none, its own ones come first.
abbrev pub whose : (udev : Option (List ℕ)) → DeviceForm → Whose
whose None form = OwnFirst form
whose (Some which) form = BuiltIn form

-- what is said if no device is named, or others are asked for
abbrev pub needs_device : (why : Bool) → List ℕ
needs_device why = if why then codes "--why needs DEVICE, without --all and --from" else codes "--udev system needs DEVICE or --all, without --from"

-- what is said of whose rules count; those that are built in have no lines to tell of
abbrev pub which_misuse : (udev : Option (List ℕ)) → Option (List ℕ)
which_misuse None = None
which_misuse (Some which) =
    if bytes_eq which (codes "system") then None
    else (if bytes_eq which (codes "built-in") then Some (codes "--why tells of the machine's own rules: leave out --udev built-in")
    else Some (codes "--udev takes system or built-in"))

-- what is said of devices
abbrev pub device_misuse : (why : Bool) (given : Option (List ℕ)) (all from : Bool) → Option (List ℕ)
device_misuse why given all from =
    if from then Some (needs_device why)
    else (if all then (if why then Some (needs_device why) else None)
    else (if is_some given then None else Some (needs_device why)))

-- what is said of forms
abbrev pub form_misuse : (why : Bool) → DeviceForm → Option (List ℕ)
form_misuse true Forms.Strings = Some (codes "--why goes without --strings and --pattern")
form_misuse true Forms.Pattern = Some (codes "--why goes without --strings and --pattern")
form_misuse why form = None

-- what is said of words that don't fit: the first of these
abbrev pub rules_misuse : RulesForm → (udev given : Option (List ℕ)) (all from : Bool) → Option (List ℕ)
rules_misuse f udev given all from = or_else (which_misuse udev) (or_else (device_misuse f.why given all from) (form_misuse f.why f.form))
