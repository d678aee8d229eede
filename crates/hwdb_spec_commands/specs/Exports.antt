-- What an export of udev's database tells of devices, as sysfs would: the output of `udevadm info --export-db` (udevadm(8)). Its lines are
-- those that udevadm-info.c of systemd 257 writes. Which attribute a property stands for is from the kernel's uevent variables (input.c,
-- usb/core/driver.c, pci-driver.c, power_supply_sysfs.c) and from the builtins usb_id, net_id and v4l_id. The rest is our choice.
use Rattle.std.specs.Prelude.{ℕ, zero, suc, Bool, true, false, List, [], ◌∷◌, ◌++◌, ◌-◌, ◌+◌, ◌*◌, ◌==◌, Option, None, Some, Result, Ok, Err, codes, drop, filter_map, find, flat_map, if◌then◌else◌, is_some, length, map, nat_eq, nat_le, not, option_map, pos, replicate, take, take_while}
use Rattle.std.specs.List.{after_first, before_first, ends_with, list_any, starts_with}
use Rattle.std.specs.Option.{option_map_or, unwrap_or}
use Rattle.hwdb_spec.specs.Folders.{same}
use Rattle.hwdb_spec.specs.Lines.{byte, is, is_none, pieces}
use Rattle.hwdb_spec.specs.Patterns.{in_span}
use Rattle.hwdb_spec.specs.Store.{path_in}
use Rattle.hwdb_spec.specs.Visible.{shown_name}
use Rattle.hwdb_spec.specs.declared.causes.Cause.{Cause}
use Rattle.hwdb_spec.specs.declared.causes.Cause.TheVariants.{System, Unknown}
use Rattle.hwdb_spec_commands.specs.DeviceTree.{Sight, last_name}
use Rattle.hwdb_spec_commands.specs.Refusals.{refusal_line}
use Rattle.hwdb_spec_commands.specs.SysfsAnswers.{Answers, seen}
use Rattle.hwdb_spec_commands.specs.declared.exported.TheConstants.{EXPORTED}

-- ---- lines and records

-- the lines of an export; one ends at a return, too, so that a file with returns is read
abbrev pub export_lines : (bytes : List ℕ) → List (List ℕ)
export_lines bytes = map (before_first (is (byte "\r"))) (pieces (is (byte "\n")) bytes)

-- whether a device begins with this line, which has its path
abbrev pub begins_device : (line : List ℕ) → Bool
begins_device line = starts_with nat_eq line (codes "P: /")

-- a device of an export: its path below sysfs, and the lines after that one
pub record Exported : Type 0 where
  pub path : List ℕ
  pub lines : List (List ℕ)

-- the lines before the next device
abbrev pub own_lines : List (List ℕ) → List (List ℕ)
own_lines lines = take_while (λ l. not (begins_device l)) lines

-- The devices of some lines, each up to the next one. Lines before the first are passed.
unfoldable pub devices_in : List (List ℕ) → List Exported
devices_in [] = []
devices_in (line ∷ more) =
    if begins_device line then record { path = drop 3 line; lines = own_lines more } ∷ devices_in more else devices_in more

-- what the first of some lines says that begins so
abbrev pub said_after : (start : List ℕ) → List (List ℕ) → Option (List ℕ)
said_after start lines = option_map (drop (length start)) (find (λ l. starts_with nat_eq l start) lines)

-- ---- values, as udev writes them

-- what is between the quotes that the kernel puts around a text
abbrev pub unquoted : List ℕ → List ℕ
unquoted value = take (length value - 2) (drop 1 value)

-- a number in hexadecimal digits as an attribute has it: four at least
abbrev pub four_digits : List ℕ → List ℕ
four_digits digits = replicate (4 - length digits) (byte "0") ++ digits

-- the first of several numbers with slashes between them
abbrev pub first_number : List ℕ → List ℕ
first_number value = four_digits (before_first (is (byte "/")) value)

-- the second one
abbrev pub second_number : List ℕ → List ℕ
second_number value = first_number (after_first (is (byte "/")) value)

-- the third one
abbrev pub third_number : List ℕ → List ℕ
third_number value = second_number (after_first (is (byte "/")) value)

-- a hexadecimal digit's value
abbrev pub digit : ℕ → Option ℕ
digit b = if in_span b (48, 57) then Some (b - 48) else (if in_span b (97, 102) then Some (b - 87) else None)

-- the byte of two digits
abbrev pub byte_of : Option ℕ → Option ℕ → Option ℕ
byte_of (Some high) (Some low) = Some (high * 16 + low)
byte_of (Some high) None = None
byte_of None low = None

-- the byte that is coded by what comes after a backslash (`encode_devnode_name`)
abbrev pub coded : List ℕ → Option ℕ
coded (x ∷ high ∷ low ∷ rest) = if x == byte "x" then byte_of (digit high) (digit low) else None
coded text = None

-- A text in which some bytes are coded. The first `skip` bytes belong to what was read before.
unfoldable pub decoded : (skip : ℕ) → List ℕ → List ℕ
decoded skip [] = []
decoded (suc skip) (b ∷ rest) = decoded skip rest
decoded zero (b ∷ rest) = option_map_or (λ c. c ∷ decoded 3 rest) (if b == byte "\\" then coded rest else None) (b ∷ decoded 0 rest)

-- the name of a product, which usb_id writes as its number if the device has none
abbrev pub product_name : (lines : List (List ℕ)) (value : List ℕ) → List ℕ
product_name lines value =
    if option_map_or (same value) (said_after (codes "E: ID_MODEL_ID=") lines) false then [] else decoded 0 value

-- A value as the attribute has it, by the word for how udev writes it. `none` and `one` stand for a property that is there only if the
-- attribute has that number.
abbrev pub read_as : (word : List ℕ) (lines : List (List ℕ)) (value : List ℕ) → List ℕ
read_as word lines value =
    if same word (codes "quoted") then unquoted value
    else (if same word (codes "first") then first_number value
    else (if same word (codes "second") then second_number value
    else (if same word (codes "third") then third_number value
    else (if same word (codes "before") then before_first (is (byte ":")) value
    else (if same word (codes "after") then after_first (is (byte ":")) value
    else (if same word (codes "digits") then drop 3 value
    else (if same word (codes "decoded") then product_name lines value
    else (if same word (codes "none") then codes "0"
    else (if same word (codes "one") then codes "1" else value)))))))))

-- ---- attributes

-- A line of the table of attributes: the attribute's path below the folder of a device, what a line of the export begins with that tells
-- it, the word for how that writes it, and a line that the device has to have, if there is one.
pub record Rule : Type 0 where
  pub name : List ℕ
  pub start : List ℕ
  pub word : List ℕ
  pub needs : List ℕ

-- what is before the first comma
abbrev pub field : List ℕ → List ℕ
field text = before_first (is (byte ",")) text

-- what is after it
abbrev pub fields_after : List ℕ → List ℕ
fields_after text = after_first (is (byte ",")) text

-- the rule of a line
abbrev pub rule_of : (line : List ℕ) → Rule
rule_of line = record {
  name = field line;
  start = field (fields_after line);
  word = field (fields_after (fields_after line));
  needs = fields_after (fields_after (fields_after line));
}

-- whether a device has what a rule needs
abbrev pub applies : Rule → (lines : List (List ℕ)) → Bool
applies rule lines = if is_none rule.needs then true else list_any (same rule.needs) lines

-- what an attribute is by a rule; none if the device doesn't tell it
abbrev pub told_by_rule : Rule → (lines : List (List ℕ)) → Option (List ℕ)
told_by_rule rule lines = if applies rule lines then option_map (read_as rule.word lines) (said_after rule.start lines) else None

-- the rules
abbrev pub export_rules : List (List ℕ)
export_rules = pieces (is 10) EXPORTED.now

-- ---- paths

-- what a path leads to: a place, and the text of the file there, if it is a file
pub record Spot : Type 0 where
  pub place : List ℕ
  pub text : Option (List ℕ)

-- a path that leads to a place, which is no file
abbrev pub link_to : (path place : List ℕ) → List ℕ × Spot
link_to path place = (path, record { place = place; text = None })

-- a folder
abbrev pub folder_at : (path : List ℕ) → List ℕ × Spot
folder_at path = link_to path path

-- a file
abbrev pub file_with : (path text : List ℕ) → List ℕ × Spot
file_with path text = (path, record { place = path; text = Some text })

-- the folder of a device
abbrev pub exported_folder : (path : List ℕ) → List ℕ
exported_folder path = codes "/sys" ++ path

-- the folder of a subsystem; an export doesn't tell whether it is a class or a bus
abbrev pub subsystem_folder : (subsystem : List ℕ) → List ℕ
subsystem_folder subsystem = codes "/sys/class/" ++ subsystem

-- a line of the file `uevent`, if an export has it
abbrev pub uevent_line : (start lines_start : List ℕ) → (lines : List (List ℕ)) → List ℕ
uevent_line start lines_start lines = option_map_or (λ value. start ++ value ++ byte "\n" ∷ []) (said_after lines_start lines) []

-- the lines of the file `uevent` that rules read
abbrev pub exported_uevent : (lines : List (List ℕ)) → List ℕ
exported_uevent lines =
    uevent_line (codes "DEVTYPE=") (codes "E: DEVTYPE=") lines ++ uevent_line (codes "MODALIAS=") (codes "E: MODALIAS=") lines

-- The subsystem of a device, and the link to the device in its folder. What the firmware says is read by way of such a link.
abbrev pub subsystem_spots : (path : List ℕ) → (subsystem : List ℕ) → List (List ℕ × Spot)
subsystem_spots path subsystem =
    folder_at (codes "/sys/class")
    ∷ folder_at (subsystem_folder subsystem)
    ∷ link_to (path_in (exported_folder path) (codes "subsystem")) (subsystem_folder subsystem)
    ∷ link_to (path_in (subsystem_folder subsystem) (last_name path)) (exported_folder path)
    ∷ link_to (path_in (path_in (subsystem_folder subsystem) (last_name path)) (codes "modalias")) (path_in (exported_folder path) (codes "modalias"))
    ∷ []

-- the driver of a device
abbrev pub driver_spots : (path driver : List ℕ) → List (List ℕ × Spot)
driver_spots path driver = link_to (path_in (exported_folder path) (codes "driver")) (codes "/sys/bus/drivers/" ++ driver) ∷ []

-- the file of an attribute
abbrev pub attribute_spot : (path : List ℕ) (lines : List (List ℕ)) (rule : List ℕ) → Option (List ℕ × Spot)
attribute_spot path lines rule =
    option_map (file_with (path_in (exported_folder path) (rule_of rule).name)) (told_by_rule (rule_of rule) lines)

-- what a device of an export stands for in sysfs
abbrev pub spots_of : Exported → List (List ℕ × Spot)
spots_of d =
    folder_at (exported_folder d.path)
    ∷ file_with (path_in (exported_folder d.path) (codes "uevent")) (exported_uevent d.lines)
    ∷ option_map_or (subsystem_spots d.path) (said_after (codes "E: SUBSYSTEM=") d.lines) []
    ++ (option_map_or (driver_spots d.path) (said_after (codes "E: DRIVER=") d.lines) []
    ++ filter_map (attribute_spot d.path d.lines) export_rules)

-- what all devices of an export stand for
abbrev pub export_spots : (bytes : List ℕ) → List (List ℕ × Spot)
export_spots bytes = flat_map spots_of (devices_in (export_lines bytes))

-- what a path leads to after some spots: the last of those of the path counts
unfoldable pub spot_after : (path : List ℕ) → (before : Option Spot) → List (List ℕ × Spot) → Option Spot
spot_after path before [] = before
spot_after path before (row ∷ more) = spot_after path (if same row.0 path then Some row.1 else before) more

-- ---- names

-- a name in a folder
pub record Entry : Type 0 where
  pub folder : List ℕ
  pub name : List ℕ

-- the names of a subsystem and of a device in it
abbrev pub entries_in : (path subsystem : List ℕ) → List Entry
entries_in path subsystem =
    record { folder = codes "/sys/class"; name = subsystem } ∷ record { folder = subsystem_folder subsystem; name = last_name path } ∷ []

-- those of a device, if it is in a subsystem
abbrev pub entries_of : Exported → List Entry
entries_of d = option_map_or (entries_in d.path) (said_after (codes "E: SUBSYSTEM=") d.lines) []

-- those of all devices of an export
abbrev pub export_entries : (bytes : List ℕ) → List Entry
export_entries bytes = flat_map entries_of (devices_in (export_lines bytes))

-- the name of an entry, with byte 0 after it, if it is one of the folder
abbrev pub name_in : (folder : List ℕ) → Entry → List ℕ
name_in folder e = if same e.folder folder then e.name ++ 0 ∷ [] else []

-- what a folder lists
abbrev pub names_under : (folder : List ℕ) → List Entry → List ℕ
names_under folder entries = flat_map (name_in folder) entries

-- ---- answers

-- a path, but for its last name and the slash before that
abbrev pub folder_above : (path : List ℕ) → List ℕ
folder_above path = take (length path - (length (last_name path) + 1)) path

-- a path that ends so, by way of the folder above that of what comes before; else none
abbrev pub by_device : (path ending : List ℕ) → Option (List ℕ)
by_device path ending =
    if ends_with nat_eq path (codes "/device/" ++ ending)
    then Some (path_in (folder_above (take (length path - length (codes "/device/" ++ ending)) path)) ending) else None

-- Where a path is looked for. The link `device` of an event node leads to the folder above it, which is that of its input device.
abbrev pub looked_at : (path : List ℕ) → List ℕ
looked_at path =
    unwrap_or (by_device path (codes "name"))
    (unwrap_or (by_device path (codes "id/vendor"))
    (unwrap_or (by_device path (codes "id/product")) path))

-- what a path leads to in an export
abbrev pub export_spot : (bytes path : List ℕ) → Option Spot
export_spot bytes path = spot_after path None (export_spots bytes)

-- what is said of a spot, or that there is none
abbrev pub by_spot : {X : Type 0} → (Spot → Result X Cause) → Option Spot → Result X Cause
by_spot answer (Some spot) = answer spot
by_spot answer None = Err (System (pos 2))

-- the bytes of a file of a page at most
abbrev pub spot_page : Option (List ℕ) → Result (List ℕ) Cause
spot_page (Some text) = if nat_le (length text) 4096 then Ok text else Err Unknown
spot_page None = Err Unknown

-- The answers that an export stands for. Nodes aren't told: a node is found by its name.
abbrev pub export_answers : (bytes : List ℕ) → Answers
export_answers bytes = record {
  real = λ path. by_spot (λ spot. Ok spot.place) (export_spot bytes (looked_at path));
  node = λ place. Ok None;
  file = λ place. by_spot (λ spot. Ok (is_some spot.text)) (export_spot bytes place);
  page = λ place. by_spot (λ spot. spot_page spot.text) (export_spot bytes place);
  listing = λ place. Ok (names_under place (export_entries bytes));
}

-- what is seen of devices in an export
abbrev pub export_sight : (bytes : List ℕ) → Sight
export_sight bytes = seen (export_answers bytes)

-- ---- what is said

-- whether bytes are an export: a device begins in them
abbrev pub is_export : (bytes : List ℕ) → Bool
is_export bytes = list_any begins_device (export_lines bytes)

-- what is said of bytes that are none, by the name of their file
abbrev pub no_export_text : (path : List ℕ) → List ℕ
no_export_text path = codes "no export: " ++ (shown_name path ++ codes ": 'udevadm info --export-db > report.txt' writes one")

-- whether it tells what the firmware says of the machine
abbrev pub tells_machine : (bytes : List ℕ) → Bool
tells_machine bytes = is_some (export_spot bytes (codes "/sys/devices/virtual/dmi/id/modalias"))

-- what is said of an export that doesn't, by the name of its file
abbrev pub without_machine : (path bytes : List ℕ) → List ℕ
without_machine path bytes =
    if tells_machine bytes then [] else refusal_line (shown_name path ++ codes ": no DMI in it: strings end without what the firmware says")
