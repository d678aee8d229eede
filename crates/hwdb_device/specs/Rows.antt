-- Worked rows: what is printed of a keyboard, of a mouse and of a small device, by what strings get.
use Rattle.std.specs.Prelude.{List, ℕ, [], ◌∷◌, ◌++◌, ◌≡◌, codes, if◌then◌else◌, map}
use Rattle.hwdb_spec.specs.Assignment.{Assignment}
use Rattle.hwdb_spec_commands.specs.DeviceTexts.{device_row, found_form, nearest_text}
use Rattle.hwdb_spec.specs.Folders.{same}
use Rattle.hwdb_spec_commands.specs.Lookups.{Found, Told, lookups}
use Rattle.hwdb_spec_commands.specs.Near.{PatternAt}
use Rattle.hwdb_spec_commands.specs.Sysfs.{Ancestor, Device}
use Rattle.hwdb_spec_commands.specs.declared.devices.DeviceForm.TheVariants as form
use Rattle.hwdb_rules.specs.Rows.{keyboard, machine}

-- a line of a text
abbrev pub l : List ℕ → List ℕ
l text = text ++ codes "\n"

-- a device of that machine
abbrev pub device : List Ancestor → Device
device chain = record { chain = chain; machine = machine }

-- an assignment of a file
abbrev pub answer : (line : ℕ) → (pattern key value : List ℕ) → Assignment
answer line pattern key value = record {
  position = record { priority = 1; line = line; pattern = pattern; key = key };
  value = value;
  path = codes "/etc/a.hwdb";
}

-- a key with one value, at a pattern
abbrev pub gives : (line : ℕ) → (pattern key value : List ℕ) → Told
gives line pattern key value = (key, answer line pattern key value ∷ []) ∷ []

-- two strings of the keyboard give a key, and one gives another one
abbrev pub tells : List ℕ → Told
tells text =
    if same text (codes "evdev:atkbd:dmi:bvrN1CET81W_1.49_:") then gives 2 (codes "evdev:atkbd:*") (codes "KEY_b") (codes "mute") ++ gives 3 (codes "evdev:atkbd:*") (codes "KEY_c") (codes "f1")
    else (if same text (codes "evdev:name:AT Set _2_:dmi:bvrN1CET81W_1.49_:") then gives 6 (codes "evdev:name:AT*") (codes "KEY_b") (codes "prog1")
    else [])

-- what is printed without options: the later string's value counts
abbrev pub TextRow : Type 0
TextRow =
    found_form form.Lookups (device keyboard) [] (lookups tells (device keyboard))
    ≡ l (codes "evdev:input:b0011v0001p0001eAB54-e0,1,4")
    ++ (l (codes "  60-evdev, of /devices/input4: nothing")
    ++ (l (codes "")
    ++ (l (codes "evdev:atkbd:dmi:bvrN1CET81W_1.49_:")
    ++ (l (codes "  60-evdev, of /devices/serio0")
    ++ (l (codes "KEY_b=mute")
    ++ (l (codes "    /etc/a.hwdb:2  evdev:atkbd:*")
    ++ (l (codes "KEY_c=f1")
    ++ (l (codes "    /etc/a.hwdb:3  evdev:atkbd:*")
    ++ (l (codes "")
    ++ (l (codes "evdev:name:AT Set _2_:dmi:bvrN1CET81W_1.49_:")
    ++ (l (codes "  60-evdev, of /devices/input4")
    ++ (l (codes "KEY_b=prog1")
    ++ (l (codes "    /etc/a.hwdb:6  evdev:name:AT*")
    ++ (l (codes "")
    ++ (l (codes "evdev:name:AT Set _2_:phys:isa0060:ev:120013:dmi:bvrN1CET81W_1.49_:")
    ++ (l (codes "  60-evdev, of /devices/input4: nothing")
    ++ (l (codes "")
    ++ (l (codes "id-input:modalias:input:b0011v0001p0001eAB54-e0,1,4")
    ++ (l (codes "  60-input-id, of /devices/input4: nothing")
    ++ (l (codes "")
    ++ (l (codes "libwacom:name:AT Set _2_:input:b0011v0001p0001eAB54-e0,1,4")
    ++ (l (codes "  65-libwacom, of /devices/input4: nothing")
    ++ (l (codes "")
    ++ (l (codes "properties:")
    ++ (l (codes "KEY_b=prog1")
    ++ (l (codes "  overrides KEY_b=mute")
    ++ (l (codes "    evdev:atkbd:dmi:bvrN1CET81W_1.49_:")
    ++ l (codes "KEY_c=f1"))))))))))))))))))))))))))))

-- the strings alone
abbrev pub StringsRow : Type 0
StringsRow =
    found_form form.Strings (device keyboard) [] (lookups tells (device keyboard))
    ≡ l (codes "evdev:input:b0011v0001p0001eAB54-e0,1,4")
    ++ (l (codes "evdev:atkbd:dmi:bvrN1CET81W_1.49_:")
    ++ (l (codes "evdev:name:AT Set _2_:dmi:bvrN1CET81W_1.49_:")
    ++ (l (codes "evdev:name:AT Set _2_:phys:isa0060:ev:120013:dmi:bvrN1CET81W_1.49_:")
    ++ (l (codes "id-input:modalias:input:b0011v0001p0001eAB54-e0,1,4")
    ++ l (codes "libwacom:name:AT Set _2_:input:b0011v0001p0001eAB54-e0,1,4")))))

-- a line of the list
abbrev pub ListRow : Type 0
ListRow = device_row (device keyboard) ≡ l (codes "event4  AT Set (2)")

-- nothing is asked for what isn't there
abbrev pub NoRow : Type 0
NoRow = device_row (device []) ≡ []

-- ---- a small device, and what is asked for it

-- a device of a subsystem
abbrev pub in_subsystem : (subsystem : List ℕ) → Device
in_subsystem subsystem = device (record { path = codes "/devices/n1"; name = codes "n1"; subsystem = subsystem; driver = []; uevent = []; attributes = [] } ∷ [])

-- a string that was asked of it
abbrev pub asked : (rule text : List ℕ) → Told → Found
asked rule text told = record { rule = rule; parent = 0; text = text; told = told }

-- three strings, of which the second gets a property, and people set none for the last
abbrev pub three : List Found
three =
    asked (codes "60-evdev") (codes "evdev:a1") [] ∷ asked (codes "70-mouse") (codes "mouse:b") (gives 2 (codes "mouse:*") (codes "K") (codes "v"))
    ∷ asked (codes "50-udev-default") (codes "usb:v1") [] ∷ []

-- a pattern at a line
abbrev pub pattern_at : (line : ℕ) → (pattern : List ℕ) → PatternAt
pattern_at line pattern = record { path = codes "/etc/a.hwdb"; file = 1; line = line; pattern = pattern }

-- some patterns: two begin as the first string does, and others as the second and as the last
abbrev pub patterns : List PatternAt
patterns = pattern_at 2 (codes "mouse:*") ∷ pattern_at 3 (codes "evdev:a2*") ∷ pattern_at 5 (codes "evdev:zz") ∷ pattern_at 7 (codes "usb:v2") ∷ pattern_at 9 (codes "evde:a1") ∷ []

-- the whole text: last what is left out of a network device, and the nearest pattern to the string that gets nothing
abbrev pub NearestRow : Type 0
NearestRow =
    found_form form.Lookups (in_subsystem (codes "net")) patterns three
    ≡ l (codes "evdev:a1")
    ++ (l (codes "  60-evdev, of /devices/n1: nothing")
    ++ (l (codes "")
    ++ (l (codes "mouse:b")
    ++ (l (codes "  70-mouse, of /devices/n1")
    ++ (l (codes "K=v")
    ++ (l (codes "    /etc/a.hwdb:2  mouse:*")
    ++ (l (codes "")
    ++ (l (codes "usb:v1")
    ++ (l (codes "  50-udev-default, of /devices/n1: nothing")
    ++ (l (codes "")
    ++ (l (codes "properties:")
    ++ (l (codes "K=v")
    ++ (l (codes "left out: udev asks ethtool for the driver; this is the nearest parent's")
    ++ (l (codes "nearest patterns to what got nothing:")
    ++ (l (codes "/etc/a.hwdb:3: the device has `1`, the pattern `2`")
    ++ (l (codes "    evdev:a2*")
    ++ (l (codes "           ^")
    ++ (l (codes "    evdev:a1")
    ++ l (codes "           ^")))))))))))))))))))

-- Of two strings with a prefix the one that misses fewer literals counts, or the first of two that miss as many. Each prefix has
-- its own.
abbrev pub ClosestRow : Type 0
ClosestRow =
    nearest_text (pattern_at 2 (codes "evdev:abc") ∷ pattern_at 4 (codes "mouse:m") ∷ [])
    (map (λ text. asked [] text []) (codes "mouse:n" ∷ codes "evdev:axx" ∷ codes "evdev:abx" ∷ codes "evdev:aby" ∷ codes "usb:v1" ∷ []))
    ≡ l (codes "nearest patterns to what got nothing:")
    ++ (l (codes "/etc/a.hwdb:2: the device has `x`, the pattern `c`")
    ++ (l (codes "    evdev:abc")
    ++ (l (codes "            ^")
    ++ (l (codes "    evdev:abx")
    ++ (l (codes "            ^")
    ++ (l (codes "/etc/a.hwdb:4: the device has `n`, the pattern `m`")
    ++ (l (codes "    mouse:m")
    ++ (l (codes "          ^")
    ++ (l (codes "    mouse:n")
    ++ l (codes "          ^"))))))))))

-- what is left out of a disk, and nothing of a keyboard
abbrev pub LeftOutRows : Type 0
LeftOutRows =
    map (λ subsystem. found_form form.Lookups (in_subsystem subsystem) [] []) (codes "block" ∷ codes "input" ∷ [])
    ≡ (l (codes "no properties") ++ l (codes "left out: 90-iocost asks by what the disk itself answers")) ∷ l (codes "no properties") ∷ []

-- lines of JSON: one for each string, and one for the result
abbrev pub JsonRow : Type 0
JsonRow =
    found_form form.Json (in_subsystem (codes "net")) patterns three
    ≡ l (codes "{\"rule\":\"60-evdev\",\"device\":\"evdev:a1\",\"path\":\"/devices/n1\",\"properties\":{}}")
    ++ (l (codes "{\"rule\":\"70-mouse\",\"device\":\"mouse:b\",\"path\":\"/devices/n1\",\"properties\":{\"K\":\"v\"}}")
    ++ (l (codes "{\"rule\":\"50-udev-default\",\"device\":\"usb:v1\",\"path\":\"/devices/n1\",\"properties\":{}}")
    ++ l (codes "{\"path\":\"/devices/n1\",\"result\":{\"K\":\"v\"}}")))
