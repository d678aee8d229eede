-- The records that `device --pattern` prints: a pattern for each prefix at which people set properties of a device, and these properties.
-- A pattern names the device by its bus, vendor and product, or by the machine's vendor and model. It says nothing of where the device is,
-- of the BIOS, and of numbers of one piece. The forms are those of 60-keyboard.hwdb, 60-sensor.hwdb and 70-mouse.hwdb; which device gets
-- which is our choice.
use Rattle.std.specs.Prelude.{Bool, true, ℕ, zero, suc, List, [], ◌∷◌, ◌++◌, ◌+◌, ◌-◌, ◌==◌, Option, None, codes, drop, find, if◌then◌else◌, length, map, nat_eq, option_map, take}
use Rattle.std.specs.List.{ends_with, starts_with}
use Rattle.std.specs.Option.{option_map_or, option_or}
use Rattle.hwdb_spec.specs.Folders.{same}
use Rattle.hwdb_spec.specs.Lines.{byte, is_none}
use Rattle.hwdb_spec_commands.specs.Lookups.{Found}

-- ---- a pattern for bytes

-- the bytes that aren't themselves in a pattern of a text file (hwdb(7), and the `\` of fnmatch(3))
abbrev pub is_special : ℕ → Bool
is_special b =
    if b == byte "*" then true
    else (if b == byte "?" then true else (if b == byte "[" then true else (if b == byte "\\" then true else b == byte "#")))

-- a byte of a pattern for a text
abbrev pub pattern_byte : ℕ → ℕ
pattern_byte b = if is_special b then byte "?" else b

-- a pattern for a text: as many bytes, and one that is special is any one byte
abbrev pub pattern_for : List ℕ → List ℕ
pattern_for text = map pattern_byte text

-- whether a text begins with another
abbrev pub begins : List ℕ → List ℕ → Bool
begins start text = starts_with nat_eq text start

-- ---- devices with numbers of their own

-- How strings begin that name a vendor and a product, and how many bytes these take after that (FormTable). After `b` comes the bus.
abbrev pub numbered : List (List ℕ × ℕ)
numbered =
    (codes "evdev:input:b", 14) ∷ (codes "id-input:modalias:input:b", 14) ∷ (codes "input:b", 14)
    ∷ (codes "mouse:usb:v", 10) ∷ (codes "mouse:bluetooth:v", 10)
    ∷ (codes "touchpad:usb:v", 10) ∷ (codes "touchpad:bluetooth:v", 10)
    ∷ (codes "joystick:usb:v", 10) ∷ (codes "joystick:bluetooth:v", 10)
    ∷ (codes "usb:v", 9) ∷ (codes "pci:v", 17) ∷ []

-- after how many of its bytes a string has named vendor and product; none if it doesn't
abbrev pub numbers_end : List ℕ → Option ℕ
numbers_end text =
    option_map (λ (n : List ℕ × ℕ). length n.0 + n.1) (find (λ (n : List ℕ × ℕ). begins n.0 text) numbered)

-- ---- devices of the machine

-- a text from where another one is first; empty if that is nowhere
unfoldable pub from_first : (wanted : List ℕ) → List ℕ → List ℕ
from_first wanted [] = []
from_first wanted (b ∷ rest) = if begins wanted (b ∷ rest) then b ∷ rest else from_first wanted rest

-- a text up to so many colons, with the last of them
unfoldable pub up_to_colons : ℕ → List ℕ → List ℕ
up_to_colons zero text = []
up_to_colons (suc n) [] = []
up_to_colons (suc n) (b ∷ rest) = b ∷ up_to_colons (if b == byte ":" then n else suc n) rest

-- vendor and model as a machine's name has them. Of Lenovo's models the first four bytes say the type, and the others how it is configured.
abbrev pub model_type : (model : List ℕ) → List ℕ
model_type model = if begins (codes ":svnLENOVO:pn") model then take 17 model else model

-- vendor and model of what names a machine, each after a colon, and one more colon; empty if there is none (FormTable)
abbrev pub model_part : (machine : List ℕ) → List ℕ
model_part machine = model_type (up_to_colons 3 (from_first (codes ":svn") machine))

-- a pattern for a machine by its vendor and model
abbrev pub model_pattern : (model : List ℕ) → List ℕ
model_pattern [] = codes "dmi:*"
model_pattern (b ∷ more) = codes "dmi:*" ++ (pattern_for (b ∷ more) ++ codes "*")

-- a pattern for a machine, by what names it
abbrev pub machine_pattern : (machine : List ℕ) → List ℕ
machine_pattern machine = if begins (codes "dmi:") machine then model_pattern (model_part (drop 4 machine)) else pattern_for machine

-- ---- a pattern that lasts

-- a pattern for a string that is the machine's name, or may end with it
abbrev pub text_pattern : (machine text : List ℕ) → List ℕ
text_pattern machine text =
    if begins (codes "dmi:") text then machine_pattern text
    else (if ends_with nat_eq text machine then pattern_for (take (length text - length machine) text) ++ machine_pattern machine
    else pattern_for text)

-- a pattern for a string: of its numbers, or else of what isn't of this BIOS; `machine` is the machine's name
abbrev pub lasting : (machine text : List ℕ) → List ℕ
lasting machine text =
    option_map_or (λ size. pattern_for (take size text) ++ codes "*") (numbers_end text) (text_pattern machine text)

-- ---- which strings, and what is set there

-- the first string that begins so
abbrev pub first_string : (start : List ℕ) → List Found → Option (List ℕ)
first_string start found = option_map (λ (f : Found). f.text) (find (λ (f : Found). begins start f.text) found)

-- the string that names a keyboard, a touchpad or a stick: on USB and Bluetooth by numbers, else by the machine
abbrev pub keys_string : List Found → Option (List ℕ)
keys_string found =
    option_or (first_string (codes "evdev:input:b0003v") found) (option_or (first_string (codes "evdev:input:b0005v") found)
    (option_or (first_string (codes "evdev:atkbd:") found) (first_string (codes "evdev:name:") found)))

-- the string by which an input device on USB or Bluetooth is taken for one of some kind
abbrev pub kind_string : List Found → Option (List ℕ)
kind_string found =
    option_or (first_string (codes "id-input:modalias:input:b0003v") found) (first_string (codes "id-input:modalias:input:b0005v") found)

-- the string of a device that may sleep, by its subsystem
abbrev pub sleep_string : (subsystem : List ℕ) → List Found → Option (List ℕ)
sleep_string subsystem found =
    if same subsystem (codes "usb") then first_string (codes "usb:v") found
    else (if same subsystem (codes "pci") then first_string (codes "pci:v") found else None)

-- the properties that are set at `evdev:` (60-keyboard.hwdb, 60-evdev.hwdb, 70-pointingstick.hwdb)
abbrev pub keys_properties : List ℕ
keys_properties =
    codes "# KEYBOARD_KEY_<scan code>=<key name>\n# EVDEV_ABS_<axis>=<min>:<max>:<resolution>\n# POINTINGSTICK_SENSITIVITY=<0 to 255>\n"

-- at `id-input:` (60-input-id.hwdb)
abbrev pub kind_properties : List ℕ
kind_properties = codes "# ID_INPUT_<kind, as JOYSTICK>=<0 or 1>\n"

-- at `sensor:` (60-sensor.hwdb)
abbrev pub sensor_properties : List ℕ
sensor_properties = codes "# ACCEL_MOUNT_MATRIX=<x1>, <y1>, <z1>; <x2>, <y2>, <z2>; <x3>, <y3>, <z3>\n"

-- at `mouse:` (70-mouse.hwdb)
abbrev pub mouse_properties : List ℕ
mouse_properties = codes "# MOUSE_DPI=<dpi>@<hz>\n# MOUSE_WHEEL_CLICK_ANGLE=<degrees>\n"

-- at `touchpad:` (70-touchpad.hwdb)
abbrev pub touchpad_properties : List ℕ
touchpad_properties = codes "# ID_INPUT_TOUCHPAD_INTEGRATION=<internal or external>\n"

-- at `joystick:` (70-joystick.hwdb)
abbrev pub joystick_properties : List ℕ
joystick_properties = codes "# ID_INPUT_JOYSTICK_INTEGRATION=<internal or external>\n"

-- at `usb:` and `pci:` (60-autosuspend.hwdb)
abbrev pub sleep_properties : List ℕ
sleep_properties = codes "# ID_AUTOSUSPEND=<0 or 1>\n# ID_AUTOSUSPEND_DELAY_MS=<milliseconds>\n"

-- at any other string
abbrev pub any_property : List ℕ
any_property = codes "# <KEY>=<value>\n"

-- ---- records

-- the pattern for a string, what is set there, and an empty line
abbrev pub record_with : (machine properties text : List ℕ) → List ℕ
record_with machine properties text = lasting machine text ++ (codes "\n" ++ (properties ++ codes "\n"))

-- the record at a string, if there is one
abbrev pub record_at : (machine properties : List ℕ) → Option (List ℕ) → List ℕ
record_at machine properties string = option_map_or (record_with machine properties) string []

-- those of input devices
abbrev pub input_records : (machine : List ℕ) → List Found → List ℕ
input_records machine found =
    record_at machine keys_properties (keys_string found)
    ++ (record_at machine kind_properties (kind_string found)
    ++ (record_at machine mouse_properties (first_string (codes "mouse:") found)
    ++ (record_at machine touchpad_properties (first_string (codes "touchpad:") found)
    ++ record_at machine joystick_properties (first_string (codes "joystick:") found))))

-- those of all devices for which people set properties
abbrev pub set_records : (subsystem machine : List ℕ) → List Found → List ℕ
set_records subsystem machine found =
    input_records machine found
    ++ (record_at machine sensor_properties (first_string (codes "sensor:") found)
    ++ record_at machine sleep_properties (sleep_string subsystem found))

-- the record of the first string, for any property
abbrev pub first_record : (machine : List ℕ) → List Found → List ℕ
first_record machine [] = []
first_record machine (f ∷ more) = record_with machine any_property f.text

-- what `--pattern` prints of the strings of a device, by its subsystem and the machine's name
abbrev pub records_text : (subsystem machine : List ℕ) → List Found → List ℕ
records_text subsystem machine found =
    if is_none (set_records subsystem machine found) then first_record machine found else set_records subsystem machine found
