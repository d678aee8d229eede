-- What `device` prints of a device: the strings that udev asks for it, and what a database gives each. Then the properties that the
-- device has in the end. The command and its forms are our choice.
use Rattle.std.specs.Prelude.{Bool, ℕ, List, [], ◌∷◌, ◌++◌, Option, None, codes, filter, flat_map, get_or, if◌then◌else◌, map, not, option_map, reverse}
use Rattle.std.specs.Option.{option_map_or, option_or}
use Rattle.json.specs.Json.{Json}
use Rattle.hwdb_spec_commands.specs.declared.devices.DeviceForm.{DeviceForm}
use Rattle.hwdb_spec_commands.specs.declared.devices.DeviceForm.TheVariants as form
use Rattle.hwdb_spec.specs.Answers.{last_assignments}
use Rattle.hwdb_spec.specs.Assignment.{Assignment, in_order, text_cmp}
use Rattle.hwdb_spec.specs.Explanations.{explained, explanations_text}
use Rattle.hwdb_spec.specs.Folders.{Source, all_assignments, same}
use Rattle.hwdb_spec_commands.specs.DeviceRecords.{records_text}
use Rattle.hwdb_spec_commands.specs.Json.{has_name, json_line, object_of, property_member, raw_members, text_json}
use Rattle.hwdb_spec.specs.Lines.{byte, is_none}
use Rattle.hwdb_spec_commands.specs.Near.{PatternAt}
use Rattle.hwdb_spec_commands.specs.NearAsked.{database_patterns}
use Rattle.hwdb_spec_commands.specs.NearPrefixes.{files_patterns, prefix_report}
use Rattle.hwdb_spec_commands.specs.Lookups.{Found, Told, first_value, lookups}
use Rattle.hwdb_spec_commands.specs.Sysfs.{Ancestor, At, Device, attribute_text, cut_short, first_of, has_text}
use Rattle.hwdb_spec.specs.Texts.{property_text}
use Rattle.hwdb_spec.specs.Visible.{shown_name}
use Rattle.hwdb_spec.specs.Tree.{Tree, answers}

-- ---- what is asked, over a database

-- what a database gives a string, as `explain` has it: for each key its answers, the last first
abbrev pub told_by : Tree → List ℕ → Told
told_by t text = explained (answers text t)

-- what no database gives
abbrev pub told_nothing : List ℕ → Told
told_nothing text = []

-- the strings that are asked for a device, and what a database gives each
abbrev pub asked_for : Device → Tree → List Found
asked_for d t = lookups (told_by t) d

-- ---- the properties that a device has in the end

-- a property that a string gives
pub record Gift : Type 0 where
  pub text : List ℕ
  pub key : List ℕ
  pub value : List ℕ

-- the key of a property that is given
abbrev pub key_of_gift : Gift → List ℕ
key_of_gift g = g.key

-- a key's answers as what the string gives: the first counts
abbrev pub gift_of : (text : List ℕ) → List ℕ × List Assignment → Gift
gift_of text t = record { text = text; key = t.0; value = first_value t.1 }

-- what a string gives
abbrev pub gifts_of : Found → List Gift
gifts_of f = map (gift_of f.text) f.told

-- what all strings give, in the order in which they are asked
abbrev pub all_gifts : List Found → List Gift
all_gifts found = flat_map gifts_of found

-- whether a property has the key
abbrev pub is_of : (key : List ℕ) → Gift → Bool
is_of key g = same g.key key

-- what is given a key, the last first
abbrev pub given_to : (key : List ℕ) → List Gift → List Gift
given_to key gifts = reverse (filter (is_of key) gifts)

-- For each key what it is given, the last first, ascending by key: udev keeps the value that a property gets last.
abbrev pub results : List Gift → List (List ℕ × List Gift)
results gifts = map (λ key. (key, given_to key gifts)) (in_order text_cmp (map key_of_gift gifts))

-- the value of the first
abbrev pub value_given : List Gift → List ℕ
value_given [] = []
value_given (g ∷ more) = g.value

-- a key, and its value in the end
abbrev pub value_in_end : List ℕ × List Gift → List ℕ × List ℕ
value_in_end r = (r.0, value_given r.1)

-- the properties that a device has in the end
abbrev pub result_of : List Gift → List (List ℕ × List ℕ)
result_of gifts = map value_in_end (results gifts)

-- ---- text

-- the path of a device
abbrev pub path_of : Ancestor → List ℕ
path_of a = a.path

-- the path of one of a device and its parents, by after how many others it comes
abbrev pub path_at : Device → ℕ → List ℕ
path_at d place = get_or (map path_of d.chain) place []

-- a text, and a newline
abbrev pub line_of : List ℕ → List ℕ
line_of text = text ++ byte "\n" ∷ []

-- what is added if a string gets nothing
abbrev pub unanswered : Told → List ℕ
unanswered told = if is_none told then codes ": nothing" else []

-- which rules file asks a string, of which of a device and its parents, and whether it gets nothing
abbrev pub asker_line : Device → Found → List ℕ
asker_line d f = codes "  " ++ (f.rule ++ (codes ", of " ++ (shown_name (path_at d f.parent) ++ line_of (unanswered f.told))))

-- a string, who asks it, and what it gets, as `explain` prints it; and an empty line
abbrev pub found_text : Device → Found → List ℕ
found_text d f = line_of f.text ++ (asker_line d f ++ line_of (explanations_text f.told))

-- a property that a later string overrides, and the string that gives it
abbrev pub overridden_lines : Gift → List ℕ
overridden_lines g = codes "  overrides " ++ (property_text (g.key, g.value) ++ (codes "    " ++ line_of g.text))

-- a property that the device has in the end, and those that it overrides
abbrev pub result_text : (key : List ℕ) → List Gift → List ℕ
result_text key [] = []
result_text key (g ∷ overridden) = property_text (key, g.value) ++ flat_map overridden_lines overridden

-- the lines of a key
abbrev pub result_lines : List ℕ × List Gift → List ℕ
result_lines r = result_text r.0 r.1

-- the properties that the device has in the end
abbrev pub results_text : List (List ℕ × List Gift) → List ℕ
results_text [] = codes "no properties\n"
results_text (r ∷ more) = codes "properties:\n" ++ flat_map result_lines (r ∷ more)

-- the subsystem of a device
abbrev pub subsystem_of : List Ancestor → List ℕ
subsystem_of [] = []
subsystem_of (own ∷ parents) = own.subsystem

-- what needs more than sysfs and is left out, by the device's subsystem (90-iocost.rules, 75-net-description.rules, 60-tpm2-id.rules of 262)
abbrev pub left_out_text : (subsystem : List ℕ) → List ℕ
left_out_text subsystem =
    if same subsystem (codes "block") then codes "left out: 90-iocost asks by what the disk itself answers\n"
    else (if same subsystem (codes "net") then codes "left out: udev asks ethtool for the driver; this is the nearest parent's\n"
    else (if same subsystem (codes "tpmrm") then codes "left out: 60-tpm2-id asks by what the TPM itself answers\n" else []))

-- what is printed without options
abbrev pub lookups_text : Device → List Found → List ℕ
lookups_text d found = flat_map (found_text d) found ++ (results_text (results (all_gifts found)) ++ left_out_text (subsystem_of d.chain))

-- what `--strings` prints: the strings, one a line
abbrev pub strings_text : List Found → List ℕ
strings_text found = flat_map (λ (f : Found). line_of f.text) found

-- ---- JSON

-- a key's answers as a property: the first counts
abbrev pub property_of : List ℕ × List Assignment → List ℕ × List ℕ
property_of t = (t.0, first_value t.1)

-- properties under a name, and those whose keys aren't UTF-8 under `raw`
abbrev pub properties_members : (name : List ℕ) → List (List ℕ × List ℕ) → List (List ℕ × Json)
properties_members name properties =
    (name, object_of (map property_member (filter has_name properties))) ∷ raw_members (filter (λ p. not (has_name p)) properties)

-- a string, who asks it, and what it gets
abbrev pub found_json : Device → Found → Json
found_json d f =
    object_of ((codes "rule", text_json f.rule) ∷ (codes "device", text_json f.text) ∷ (codes "path", text_json (path_at d f.parent))
    ∷ properties_members (codes "properties") (map property_of f.told))

-- the properties that the device has in the end
abbrev pub result_json : Device → List (List ℕ × List ℕ) → Json
result_json d properties = object_of ((codes "path", text_json (path_at d 0)) ∷ properties_members (codes "result") properties)

-- what `--json` prints: a line for each string, and one for the result
abbrev pub lookups_json : Device → List Found → List ℕ
lookups_json d found = flat_map (λ f. json_line (found_json d f)) found ++ json_line (result_json d (result_of (all_gifts found)))

-- ---- what is near to strings that get nothing

-- the prefixes of strings that people set properties for (60-keyboard.hwdb, 60-sensor.hwdb, 70-mouse.hwdb, 70-touchpad.hwdb,
-- 70-joystick.hwdb)
abbrev pub set_prefixes : List (List ℕ)
set_prefixes = codes "evdev:" ∷ codes "sensor:" ∷ codes "mouse:" ∷ codes "touchpad:" ∷ codes "joystick:" ∷ []

-- whether a string gets nothing
abbrev pub gets_nothing : Found → Bool
gets_nothing f = is_none f.told

-- the string that was asked
abbrev pub text_of : Found → List ℕ
text_of f = f.text

-- the strings that get nothing
abbrev pub wanting : List Found → List (List ℕ)
wanting found = map text_of (filter gets_nothing found)

-- reports of the nearest patterns, after a line that says what they are
abbrev pub nearest_part : List ℕ → List ℕ
nearest_part [] = []
nearest_part (b ∷ rest) = codes "nearest patterns to what got nothing:\n" ++ b ∷ rest

-- for each such prefix the pattern that is nearest to a string that gets nothing, if there is one
abbrev pub nearest_text : List PatternAt → List Found → List ℕ
nearest_text patterns found = nearest_part (flat_map (prefix_report patterns (wanting found)) set_prefixes)

-- ---- what is printed

-- what is printed of strings that are asked for a device, by the patterns of a database
abbrev pub found_form : DeviceForm → Device → List PatternAt → List Found → List ℕ
found_form form.Lookups d patterns found = lookups_text d found ++ nearest_text patterns found
found_form form.Strings d patterns found = strings_text found
found_form form.Json d patterns found = lookups_json d found
found_form form.Pattern d patterns found = records_text (subsystem_of d.chain) (cut_short d.machine) found

-- what `device` prints of a device, over a database
abbrev pub device_text : DeviceForm → Device → Tree → List ℕ
device_text as_form d t = found_form as_form d (database_patterns t) (asked_for d t)

-- what a string gets, said of the files' plain list: of the last assignments that match it
abbrev pub told_of_files : (etc usr : List Source) → List ℕ → Told
told_of_files etc usr text = explained (last_assignments text None (all_assignments etc usr))

-- what `device` prints of a device, said of the files' plain list
abbrev pub files_device_text : DeviceForm → Device → (etc usr : List Source) → List ℕ
files_device_text as_form d etc usr = found_form as_form d (files_patterns etc usr) (lookups (told_of_files etc usr) d)

-- an attribute of the first of a device and its parents that has it
abbrev pub text_in : (attribute : List ℕ) → List Ancestor → Option (List ℕ)
text_in name chain = option_map (λ (p : At). attribute_text name p.ancestor) (first_of (has_text name) chain)

-- how a device is called: by the attribute `name` of it or a parent, or else by `product`
abbrev pub called : List Ancestor → Option (List ℕ)
called chain = option_or (text_in (codes "name") chain) (text_in (codes "product") chain)

-- the same, after two spaces
abbrev pub title_of : List Ancestor → List ℕ
title_of chain = option_map_or (λ (title : List ℕ). codes "  " ++ title) (called chain) []

-- the kernel's name of a device, and how it is called
abbrev pub row_of : List Ancestor → List ℕ
row_of [] = []
row_of (own ∷ parents) = line_of (shown_name own.name ++ title_of (own ∷ parents))

-- the line of a device in the list of all; empty if nothing is asked for it
abbrev pub device_row : Device → List ℕ
device_row d = if is_none (lookups told_nothing d) then [] else row_of d.chain
