-- The strings that udev asks the database for when a device is added, in their order. They are those of the lines of systemd 257's
-- rules files that call the builtin `hwdb`. Besides they are those of the builtins `input_id` and `net_id`, and of the rules of the
-- packages upower 1.90 and libwacom. What systemd 262 and upower 1.91 ask besides is there too, so that no string of either is missed
-- (our choice): it says so. Lines are numbered as in 257, or in 262 if that is said. A sound card's strings are those of its change,
-- when udev asks for it. Left out: the lines of 90-iocost.rules and of 262's 60-tpm2-id.rules, which need a disk's or a TPM's own
-- answers. The driver of a network device is that of its nearest parent with one; udev asks ethtool.
use Rattle.std.specs.Prelude.{Bool, true, false, ℕ, suc, List, [], ◌∷◌, ◌++◌, ◌-◌, ◌==◌, Option, None, Some, if◌then◌else◌, codes, filter, flat_map, get_or, is_some, length, map, nat_eq, not}
use Rattle.std.specs.List.{before_first, ends_with, starts_with}
use Rattle.std.specs.Option.{option_map_or, option_or, unwrap_or}
use Rattle.hwdb_spec.specs.Assignment.{Assignment}
use Rattle.hwdb_spec.specs.Folders.{same}
use Rattle.hwdb_spec.specs.Lines.{byte, is, is_none}
use Rattle.hwdb_spec.specs.Patterns.{in_span}
use Rattle.hwdb_spec_commands.specs.Sysfs.{Ancestor, At, Device, attribute, attribute_is, attribute_text, cut_short, first_of, has_driver, has_text, is_in, is_named, is_run, is_usb_device, put_in, some, uevent_value}
use Rattle.hwdb_spec_commands.specs.Inputs.{Kinds, kinds_by_bits, no_kinds}

-- ---- what a rule sees and asks

-- the device, itself and its parents from it up, and the machine's name as rules write it
pub record Scene : Type 0 where
  pub own : Ancestor
  pub chain : List Ancestor
  pub machine : List ℕ

-- a string, and which parent it comes from: after how many others
pub record Question : Type 0 where
  pub parent : ℕ
  pub text : List ℕ

-- Strings of a rules file that are asked one after another, up to the first that has an answer. A line of a rule ends when the
-- builtin `hwdb` finds nothing, so that its GOTO isn't followed.
pub record Lookup : Type 0 where
  pub rule : List ℕ
  pub questions : List Question

-- what a rule asks if a condition is so
abbrev pub when : {A : Type 0} → Bool → List A → List A
when holds asked = if holds then asked else []

-- what a rule asks of the first parent that passes
abbrev pub of_first : {A : Type 0} → (Ancestor → Bool) → Scene → (At → List A) → List A
of_first test s asked = option_map_or asked (first_of test s.chain) []

-- one string, of a parent; none if udev doesn't run its lookup
abbrev pub question_at : At → List ℕ → List Question
question_at p text = when (is_run text) (record { parent = p.place; text = text } ∷ [])

-- one string
abbrev pub ask_one : (rule : List ℕ) → At → List ℕ → List Lookup
ask_one rule p text = record { rule = rule; questions = question_at p text } ∷ []

-- `$attr{}`: the device's own attribute, else that of the parent that matched (udev-format.c)
abbrev pub attr : List ℕ → Scene → At → List ℕ
attr name s p = put_in (unwrap_or (option_or (attribute name s.own) (attribute name p.ancestor)) [])

-- the device itself, as what matched
abbrev pub itself : Scene → At
itself s = record { place = 0; ancestor = s.own }

-- ---- walks: the builtin `hwdb` without a string (`udev_builtin_hwdb_search`)

-- a letter in upper case; any other byte as it is
abbrev pub upper_byte : ℕ → ℕ
upper_byte b = if in_span b (97, 122) then b - 32 else b

-- digits in upper case, as `%04X` writes the four that the kernel gives
abbrev pub upper : List ℕ → List ℕ
upper digits = map upper_byte digits

-- the string that is made of a device on USB without MODALIAS (`modalias_usb`)
abbrev pub usb_text : Option (List ℕ) → Option (List ℕ) → (product : List ℕ) → Option (List ℕ)
usb_text (Some vendor) (Some id) product = Some (codes "usb:v" ++ (upper vendor ++ (codes "p" ++ (upper id ++ (byte ":" ∷ product)))))
usb_text (Some vendor) None product = None
usb_text None id product = None

-- the string that is made of a device, if it is on USB itself
abbrev pub made_of : Ancestor → Option (List ℕ)
made_of a =
    if is_usb_device a then usb_text (attribute (codes "idVendor") a) (attribute (codes "idProduct") a) (attribute_text (codes "product") a) else None

-- the string of a device
abbrev pub string_of : Ancestor → Option (List ℕ)
string_of a = option_or (uevent_value (codes "MODALIAS=") a) (made_of a)

-- whether a walk looks at a device: it is in the subsystem, if one is given
abbrev pub is_walked : List ℕ → Ancestor → Bool
is_walked subsystem a = if is_none subsystem then true else is_in subsystem a

-- The strings of a device and its parents from a place on, with what comes before each. Above a device on USB only the hub would
-- follow: the first string from there on is the last.
unfoldable pub strings_from : (subsystem prefix : List ℕ) → (place : ℕ) → (is_last : Bool) → List Ancestor → List Question
strings_from subsystem prefix place is_last [] = []
strings_from subsystem prefix place is_last (a ∷ more) =
    if is_walked subsystem a then
    (let last = if is_last then true else is_usb_device a in
    option_map_or (λ text. record { parent = place; text = prefix ++ text } ∷ (if last then [] else strings_from subsystem prefix (suc place) false more))
    (string_of a) (strings_from subsystem prefix (suc place) last more))
    else strings_from subsystem prefix (suc place) is_last more

-- a walk up the parents; none if udev doesn't run it, by what comes before its strings
abbrev pub walk : (rule subsystem prefix : List ℕ) → Scene → List Lookup
walk rule subsystem prefix s =
    record { rule = rule; questions = when (is_run prefix) (strings_from subsystem prefix 0 false s.chain) } ∷ []

-- ---- 50-udev-default.rules

-- line 17: devices of hidraw, by any parent
abbrev pub hidraw_rule : Scene → List Lookup
hidraw_rule s = when (is_in (codes "hidraw") s.own) (walk (codes "50-udev-default") [] [] s)

-- line 19: devices on USB
abbrev pub usb_rule : Scene → List Lookup
usb_rule s = when (is_usb_device s.own) (walk (codes "50-udev-default") (codes "usb") [] s)

-- line 20: what has MODALIAS, by the parents in its own subsystem
abbrev pub modalias_rule : Scene → List Lookup
modalias_rule s =
    when (if is_none (unwrap_or (uevent_value (codes "MODALIAS=") s.own) []) then false else not (is_none s.own.subsystem))
    (walk (codes "50-udev-default") s.own.subsystem [] s)

-- the model of a node on FireWire, if it has one
abbrev pub node_model : Scene → List ℕ
node_model s = option_map_or (λ model. codes "mo" ++ put_in model) (attribute (codes "model") s.own) []

-- the string of a node on FireWire, by its units
abbrev pub node_text : Scene → (units : List ℕ) → List ℕ
node_text s units = codes "ieee1394:node:ven" ++ (attr (codes "vendor") s (itself s) ++ (node_model s ++ (codes "units" ++ put_in units)))

-- lines 71 to 75: nodes on FireWire
abbrev pub firewire_rule : Scene → List Lookup
firewire_rule s =
    when (is_in (codes "firewire") s.own)
    (option_map_or (λ units. ask_one (codes "50-udev-default") (itself s) (node_text s units)) (attribute (codes "units") s.own) [])

-- 50-udev-default.rules, in its order
abbrev pub default_rules : Scene → List Lookup
default_rules s = hidraw_rule s ++ (usb_rule s ++ (modalias_rule s ++ firewire_rule s))

-- ---- 60-dmi-id.rules

-- whether a device is the machine, as its firmware names it
abbrev pub is_machine : Ancestor → Bool
is_machine a = if is_in (codes "dmi") a then same a.name (codes "id") else false

-- the machine's MODALIAS, with the tag of its case
abbrev pub tagged_text : Scene → List ℕ
tagged_text s =
    attr (codes "modalias") s (itself s) ++ (codes "cat" ++ (attr (codes "chassis_asset_tag") s (itself s) ++ byte ":" ∷ []))

-- whether a device has MODALIAS, and a tag of its case
abbrev pub is_tagged : Ancestor → Bool
is_tagged a = if is_none (unwrap_or (uevent_value (codes "MODALIAS=") a) []) then false else has_text (codes "chassis_asset_tag") a

-- line 23 of systemd 262, which 257 doesn't have: the tag of the machine's case
abbrev pub dmi_rules : Scene → List Lookup
dmi_rules s =
    when (if is_machine s.own then is_tagged s.own else false) (ask_one (codes "60-dmi-id") (itself s) (tagged_text s))

-- ---- 60-evdev.rules

-- line 14: keyboards of the machine, by the driver of a parent
abbrev pub atkbd_rule : Scene → List Lookup
atkbd_rule s = of_first (has_driver (codes "atkbd")) s (λ p. ask_one (codes "60-evdev") p (codes "evdev:atkbd:" ++ s.machine))

-- line 19: by name
abbrev pub name_text : Scene → At → List ℕ
name_text s p = codes "evdev:name:" ++ (attr (codes "name") s p ++ byte ":" ∷ s.machine)

-- line 24: by name, place and events
abbrev pub phys_text : Scene → At → List ℕ
phys_text s p =
    codes "evdev:name:" ++ (attr (codes "name") s p ++ (codes ":phys:" ++ (attr (codes "phys") s p
    ++ (codes ":ev:" ++ (attr (codes "capabilities/ev") s p ++ byte ":" ∷ s.machine)))))

-- input devices by their names
abbrev pub named_rules : Scene → List Lookup
named_rules s =
    of_first (is_named (codes "input")) s (λ p. ask_one (codes "60-evdev") p (name_text s p) ++ ask_one (codes "60-evdev") p (phys_text s p))

-- 60-evdev.rules, in its order
abbrev pub evdev_rules : Scene → List Lookup
evdev_rules s =
    when (is_named (codes "event") s.own)
    (walk (codes "60-evdev") (codes "input") (codes "evdev:") s
    ++ (atkbd_rule s ++ named_rules s))

-- ---- 60-input-id.rules

-- vendor, product and name of an input device
abbrev pub ids_and_name : Scene → At → List ℕ
ids_and_name s p =
    codes "v" ++ (attr (codes "id/vendor") s p ++ (codes "p" ++ (attr (codes "id/product") s p ++ (codes ":name:" ++ (attr (codes "name") s p ++ byte ":" ∷ [])))))

-- whether a device is an input device on a bus, by the bus's number
abbrev pub is_input_on : List ℕ → Ancestor → Bool
is_input_on number a = if is_named (codes "input") a then attribute_is (codes "id/bustype") number a else false

-- the string of an input device on a bus
abbrev pub bus_text : (bus : List ℕ) → Scene → At → List ℕ
bus_text bus s p = codes "id-input:" ++ (bus ++ byte ":" ∷ ids_and_name s p)

-- lines 9 to 17: an input device on a bus, by the bus's number
abbrev pub on_bus : (number bus : List ℕ) → Scene → List Question
on_bus number bus s = of_first (is_input_on number) s (λ p. question_at p (bus_text bus s p))

-- line 6: by MODALIAS
abbrev pub input_walk : Scene → List Lookup
input_walk s = when (is_in (codes "input") s.own) (walk (codes "60-input-id") (codes "input") (codes "id-input:modalias:") s)

-- 60-input-id.rules, in its order
abbrev pub input_id_rules : Scene → List Lookup
input_id_rules s =
    input_walk s
    ++ record {
      rule = codes "60-input-id";
      questions = on_bus (codes "0003") (codes "usb") s ++ (on_bus (codes "0005") (codes "bluetooth") s ++ on_bus (codes "0018") (codes "i2c") s);
    } ∷ []

-- ---- 60-sensor.rules

-- whether a sensor may be on a device
abbrev pub is_carrier : Ancestor → Bool
is_carrier a = if is_in (codes "usb") a then true else (if is_in (codes "i2c") a then true else is_in (codes "platform") a)

-- a sensor by its label, its parent's MODALIAS, and the machine
abbrev pub sensor_text : (label : List ℕ) → Scene → At → List ℕ
sensor_text label s p = codes "sensor:" ++ (label ++ (codes "modalias:" ++ (attr (codes "modalias") s p ++ byte ":" ∷ s.machine)))

-- a sensor's label, with a colon
abbrev pub label_text : Scene → At → List ℕ
label_text s p = attr (codes "label") s p ++ byte ":" ∷ []

-- lines 6 to 8: a sensor with a label
abbrev pub labelled_question : Scene → List Question
labelled_question s =
    when (has_text (codes "label") s.own) (of_first is_carrier s (λ p. question_at p (sensor_text (label_text s p) s p)))

-- whether it is an accelerometer of a Chromebook's controller
abbrev pub is_chromebook : Scene → Bool
is_chromebook s =
    if attribute_is (codes "name") (codes "cros-ec-accel") s.own then true else attribute_is (codes "name") (codes "cros-ec-accel-legacy") s.own

-- lines 11 to 19: an accelerometer of a Chromebook, by where it is
abbrev pub chromebook_question : (location label : List ℕ) → Scene → List Question
chromebook_question location label s =
    when (if is_chromebook s then attribute_is (codes "location") location s.own else false)
    (of_first (is_in (codes "platform")) s (λ p. question_at p (sensor_text label s p)))

-- lines 22 to 24: a sensor
abbrev pub plain_question : Scene → List Question
plain_question s = of_first is_carrier s (λ p. question_at p (sensor_text [] s p))

-- devices of iio
abbrev pub iio_questions : Scene → List Question
iio_questions s =
    when (if is_in (codes "iio") s.own then is_named (codes "iio") s.own else false)
    (labelled_question s ++ (chromebook_question (codes "base") (codes "accel-base:") s
    ++ (chromebook_question (codes "lid") (codes "accel-display:") s ++ plain_question s)))

-- the string of an accelerometer below ACPI
abbrev pub acpi_text : Scene → At → List ℕ
acpi_text s p = codes "sensor:modalias:acpi:" ++ (attr (codes "hid") s p ++ byte ":" ∷ s.machine)

-- the string of an accelerometer of the platform
abbrev pub platform_text : Scene → At → List ℕ
platform_text s p = codes "sensor:modalias:platform:" ++ (p.ancestor.name ++ byte ":" ∷ s.machine)

-- lines 26 to 28
abbrev pub acpi_question : Scene → List Question
acpi_question s = of_first (is_in (codes "acpi")) s (λ p. question_at p (acpi_text s p))

-- lines 30 to 32
abbrev pub platform_question : Scene → List Question
platform_question s = of_first (is_in (codes "platform")) s (λ p. question_at p (platform_text s p))

-- accelerometers that are input devices
abbrev pub accelerometer_questions : (accelerometer : Bool) → Scene → List Question
accelerometer_questions accelerometer s =
    when (if is_in (codes "input") s.own then accelerometer else false) (acpi_question s ++ platform_question s)

-- 60-sensor.rules, in its order
abbrev pub sensor_rules : (accelerometer : Bool) → Scene → List Lookup
sensor_rules accelerometer s = record { rule = codes "60-sensor"; questions = iio_questions s ++ accelerometer_questions accelerometer s } ∷ []

-- ---- 60-serial.rules, 60-upower-battery.rules and 65-libwacom.rules

-- a walk along USB if a parent is there; else along PCI if one is there
abbrev pub along_bus : (rule : List ℕ) → Scene → List Lookup
along_bus rule s =
    if some (is_in (codes "usb")) s.chain then walk rule (codes "usb") [] s
    else when (some (is_in (codes "pci")) s.chain) (walk rule (codes "pci") [] s)

-- lines 6 to 9 of 60-serial.rules
abbrev pub serial_rules : Scene → List Lookup
serial_rules s = when (is_in (codes "tty") s.own) (along_bus (codes "60-serial") s)

-- the string of a battery
abbrev pub battery_text : Scene → List ℕ
battery_text s = codes "battery:" ++ (s.own.name ++ (codes ":" ++ (attr (codes "model_name") s (itself s) ++ byte ":" ∷ s.machine)))

-- Whether the charge of a battery can be limited. upower 1.90 asks if the threshold at which charging begins isn't empty. 1.91 asks if
-- this one is there, or that at which it ends; it asks twice if both are there and the first string has no answer.
abbrev pub is_limited : Ancestor → Bool
is_limited a =
    if is_some (attribute (codes "charge_control_start_threshold") a) then true else is_some (attribute (codes "charge_control_end_threshold") a)

-- a battery whose charge can be limited, in upower's rules
abbrev pub battery_rules : Scene → List Lookup
battery_rules s =
    when (if is_in (codes "power_supply") s.own then is_limited s.own else false)
    (ask_one (codes "60-upower-battery") (itself s) (battery_text s))

-- whether the name of a device says that it is no tablet
abbrev pub is_no_tablet : Ancestor → Bool
is_no_tablet a =
    let name = attribute_text (codes "name") a in
    if ends_with nat_eq name (codes " Consumer Control") then true else (if ends_with nat_eq name (codes " System Control") then true
    else ends_with nat_eq name (codes " Keyboard"))

-- what comes before the strings of a tablet
abbrev pub tablet_prefix : Scene → At → List ℕ
tablet_prefix s p = codes "libwacom:name:" ++ (attr (codes "name") s p ++ byte ":" ∷ [])

-- tablets, in libwacom's rules
abbrev pub tablet_rules : Scene → List Lookup
tablet_rules s =
    when (if is_named (codes "event") s.own then not (some is_no_tablet s.chain) else false)
    (of_first (is_named (codes "input")) s (λ p. walk (codes "65-libwacom") (codes "input") (tablet_prefix s p) s))

-- ---- 70-camera.rules, 70-joystick.rules, 70-mouse.rules, 70-touchpad.rules

-- the string of a camera
abbrev pub camera_text : Scene → At → List ℕ
camera_text s p =
    codes "camera:usb:v" ++ (attribute_text (codes "idVendor") p.ancestor ++ (codes "p" ++ (attribute_text (codes "idProduct") p.ancestor
    ++ (codes ":name:" ++ (attr (codes "name") s (itself s) ++ byte ":" ∷ [])))))

-- lines 5 to 7 of 70-camera.rules: cameras on USB
abbrev pub camera_rules : Scene → List Lookup
camera_rules s =
    when (is_in (codes "video4linux") s.own) (of_first is_usb_device s (λ p. ask_one (codes "70-camera") p (camera_text s p)))

-- whether a device or a parent is on Bluetooth: some of these tell it by their number alone
abbrev pub is_on_bluetooth : Scene → Bool
is_on_bluetooth s =
    if some (is_in (codes "bluetooth")) s.chain then true else some (attribute_is (codes "id/bustype") (codes "0005")) s.chain

-- ID_BUS of an input device (60-persistent-input.rules); empty if it has none
abbrev pub bus_of : Scene → List ℕ
bus_of s =
    if is_on_bluetooth s then codes "bluetooth"
    else (if some (is_in (codes "serio")) s.chain then codes "i8042"
    else (if some (is_in (codes "rmi4")) s.chain then codes "rmi"
    else (if some (is_in (codes "usb")) s.chain then codes "usb" else [])))

-- the same in systemd 262, of a device on none of the buses that are nearer to it
abbrev pub upper_bus_of : Scene → List ℕ
upper_bus_of s =
    if some (is_in (codes "pci")) s.chain then codes "pci"
    else (if some (is_in (codes "acpi")) s.chain then codes "acpi"
    else (if some (is_in (codes "platform")) s.chain then codes "platform" else []))

-- ID_BUS in systemd 262: the last line decides that finds a parent on spi, serio, rmi4 or i2c. Without one it is usb, or what is above
-- that.
abbrev pub later_bus_of : Scene → List ℕ
later_bus_of s =
    if is_on_bluetooth s then codes "bluetooth"
    else (if some (is_in (codes "spi")) s.chain then codes "spi"
    else (if some (is_in (codes "serio")) s.chain then codes "i8042"
    else (if some (is_in (codes "rmi4")) s.chain then codes "rmi"
    else (if some (is_in (codes "i2c")) s.chain then codes "i2c"
    else (if some (is_in (codes "usb")) s.chain then codes "usb" else upper_bus_of s)))))

-- ID_BUS in systemd 262, if it isn't what it is in 257; else empty
abbrev pub other_bus_of : Scene → List ℕ
other_bus_of s = if same (later_bus_of s) (bus_of s) then [] else later_bus_of s

-- an input device by its kind, a bus, vendor, product and name
abbrev pub kind_text : (kind bus : List ℕ) → Scene → At → List ℕ
kind_text kind bus s p = kind ++ (bus ++ byte ":" ∷ ids_and_name s p)

-- what is asked of an input device by its kind and a bus: of the first parent with such a name
abbrev pub kind_question : (kind bus : List ℕ) → Scene → List Question
kind_question kind bus s = of_first (is_named (codes "input")) s (λ p. question_at p (kind_text kind bus s p))

-- whether it is an event device that has a kind
abbrev pub is_event_of : Bool → Scene → Bool
is_event_of kind s = if is_named (codes "event") s.own then kind else false

-- what is asked by a kind on a bus, if there is a bus
abbrev pub kind_lookup : (rule kind bus : List ℕ) → Scene → List Lookup
kind_lookup rule kind bus s = when (not (is_none bus)) (record { rule = rule; questions = kind_question kind bus s } ∷ [])

-- Lines 8 to 10 of 70-joystick.rules, and 9 to 11 of 70-touchpad.rules: an event device that has the kind, and a bus. It is asked by
-- that of systemd 257, and by that of 262.
abbrev pub kind_rules : (rule kind : List ℕ) → (has_kind : Bool) → Scene → List Lookup
kind_rules rule kind has_kind s =
    when (is_event_of has_kind s) (kind_lookup rule kind (bus_of s) s ++ kind_lookup rule kind (other_bus_of s) s)

-- a mouse of the machine: a parent has the driver, and is in the subsystem
abbrev pub is_psmouse : Ancestor → Bool
is_psmouse a = if has_driver (codes "psmouse") a then is_in (codes "serio") a else false

-- the string of a mouse of the machine
abbrev pub psmouse_text : Scene → At → List ℕ
psmouse_text s p = codes "mouse:ps2::name:" ++ (attr (codes "device/name") s p ++ byte ":" ∷ [])

-- lines 14 to 16 of 70-mouse.rules
abbrev pub psmouse_question : Scene → List Question
psmouse_question s = of_first is_psmouse s (λ p. question_at p (psmouse_text s p))

-- whether lines 8 to 13 of 70-mouse.rules ask for a bus
abbrev pub is_mouse_bus : List ℕ → Bool
is_mouse_bus bus = if same bus (codes "usb") then true else same bus (codes "bluetooth")

-- lines 8 to 13 of 70-mouse.rules; 262 asks by no other bus
abbrev pub bus_mouse_question : Scene → List Question
bus_mouse_question s = when (is_mouse_bus (bus_of s)) (kind_question (codes "mouse:") (bus_of s) s)

-- 70-mouse.rules, in its order
abbrev pub mouse_rules : Bool → Scene → List Lookup
mouse_rules mouse s =
    when (is_event_of mouse s) (record { rule = codes "70-mouse"; questions = bus_mouse_question s ++ psmouse_question s } ∷ [])

-- the rules that go by kinds
abbrev pub kinds_rules : Kinds → Scene → List Lookup
kinds_rules kinds s =
    kind_rules (codes "70-joystick") (codes "joystick:") kinds.joystick s
    ++ (mouse_rules kinds.mouse s ++ kind_rules (codes "70-touchpad") (codes "touchpad:") kinds.touchpad s)

-- ---- 71-seat.rules, 75-net-description.rules and 78-sound-card.rules

-- whether the kernel's name of a device begins so, and a digit follows
abbrev pub is_numbered : List ℕ → Ancestor → Bool
is_numbered start a = if is_named start a then in_span (get_or a.name (length start) 0) (48, 57) else false

-- the string of a screen. The rule has no quotes, so that a space ends it.
abbrev pub screen_text : Scene → At → List ℕ
screen_text s p = before_first (is (byte " ")) (codes "fb:" ++ attr (codes "modalias") s p)

-- line 32 of 71-seat.rules: a screen's MODALIAS
abbrev pub seat_rules : Scene → List Lookup
seat_rules s =
    when (if is_in (codes "graphics") s.own then is_numbered (codes "fb") s.own else false)
    (of_first (has_text (codes "modalias")) s (λ p. ask_one (codes "71-seat") p (screen_text s p)))

-- whether a device has a driver
abbrev pub is_driven : Ancestor → Bool
is_driven a = not (is_none a.driver)

-- the first parent with a driver, or the device itself
abbrev pub driven : Scene → At
driven s = unwrap_or (first_of is_driven s.chain) (itself s)

-- the string of a network device's driver
abbrev pub driver_text : At → List ℕ
driver_text p = codes "net:naming:dr" ++ (p.ancestor.driver ++ byte ":" ∷ [])

-- line 6 of 75-net-description.rules: the driver
abbrev pub driver_rule : Scene → List Lookup
driver_rule s = ask_one (codes "75-net-description") (driven s) (driver_text (driven s))

-- the bytes of a text that aren't colons
abbrev pub without_colons : List ℕ → List ℕ
without_colons text = filter (λ b. not (b == byte ":")) text

-- the digits of a network address
abbrev pub address_digits : Scene → List ℕ
address_digits s = upper (without_colons (attribute_text (codes "address") s.own))

-- whether a network device isn't stacked on another one (`device_is_stacked`)
abbrev pub is_alone : Scene → Bool
is_alone s = if has_text (codes "iflink") s.own then attribute_is (codes "ifindex") (attribute_text (codes "iflink") s.own) s.own else false

-- whether a network device has an address of its own, and is of Ethernet or SLIP (`names_mac`, `get_ifname_prefix`)
abbrev pub has_own_address : Scene → Bool
has_own_address s =
    if is_alone s then (if attribute_is (codes "addr_assign_type") (codes "0") s.own then
    (if attribute_is (codes "type") (codes "1") s.own then true else attribute_is (codes "type") (codes "256") s.own) else false) else false

-- whether these are the digits of an address of six bytes that doesn't begin with three zeros
abbrev pub is_owned : List ℕ → Bool
is_owned digits = if length digits == 12 then not (starts_with nat_eq digits (codes "000000")) else false

-- `ieee_oui` of udev-builtin-net_id.c
abbrev pub address_rule : Scene → List Lookup
address_rule s =
    when (if has_own_address s then is_owned (address_digits s) else false)
    (ask_one (codes "net_id") (itself s) (codes "OUI:" ++ address_digits s))

-- 75-net-description.rules and the builtin net_id
abbrev pub net_rules : Scene → List Lookup
net_rules s = when (is_in (codes "net") s.own) (driver_rule s ++ (along_bus (codes "75-net-description") s ++ address_rule s))

-- line 40 of 78-sound-card.rules
abbrev pub sound_rules : Scene → List Lookup
sound_rules s =
    when (if is_in (codes "sound") s.own then is_named (codes "card") s.own else false) (walk (codes "78-sound-card") [] [] s)

-- ---- what is asked, by what is answered

-- what a string gets: for each key its answers, the last first
abbrev pub Told : Type 0
Told = List (List ℕ × List Assignment)

-- a string that was asked: which rule asked it, of which parent, and what it gets
pub record Found : Type 0 where
  pub rule : List ℕ
  pub parent : ℕ
  pub text : List ℕ
  pub told : Told

-- strings, one after another, up to the first that has an answer
unfoldable pub asked_in : (List ℕ → Told) → (rule : List ℕ) → List Question → List Found
asked_in tells rule [] = []
asked_in tells rule (q ∷ more) =
    record { rule = rule; parent = q.parent; text = q.text; told = tells q.text }
    ∷ (if is_none (tells q.text) then asked_in tells rule more else [])

-- the strings of lookups
abbrev pub all_asked : (List ℕ → Told) → List Lookup → List Found
all_asked tells lookups = flat_map (λ l. asked_in tells l.rule l.questions) lookups

-- the value of the first of some answers
abbrev pub first_value : List Assignment → List ℕ
first_value [] = []
first_value (f ∷ more) = f.value

-- what a string gives a key; none if it doesn't
unfoldable pub told_value : List ℕ → Told → Option (List ℕ)
told_value key [] = None
told_value key (t ∷ more) = if same t.0 key then Some (first_value t.1) else told_value key more

-- whether a property passes, after more strings: the last that gives it decides
unfoldable pub flag_after : (List ℕ → Bool) → (key : List ℕ) → Bool → List Found → Bool
flag_after test key before [] = before
flag_after test key before (f ∷ more) = flag_after test key (option_map_or test (told_value key f.told) before) more

-- whether a property is set
abbrev pub is_set : List ℕ → Bool
is_set value = not (is_none value)

-- whether a property is `1`
abbrev pub is_one : List ℕ → Bool
is_one value = same value (codes "1")

-- what kinds a device has, after more strings
abbrev pub kinds_after : Kinds → List Found → Kinds
kinds_after kinds found = record {
  mouse = flag_after is_set (codes "ID_INPUT_MOUSE") kinds.mouse found;
  touchpad = flag_after is_set (codes "ID_INPUT_TOUCHPAD") kinds.touchpad found;
  joystick = flag_after is_set (codes "ID_INPUT_JOYSTICK") kinds.joystick found;
  accelerometer = flag_after is_one (codes "ID_INPUT_ACCELEROMETER") kinds.accelerometer found;
}

-- what kinds an input device has after the builtin `input_id`, which 60-input-id.rules calls first
abbrev pub kinds_seen : Kinds → Scene → Kinds
kinds_seen before s = if is_in (codes "input") s.own then kinds_by_bits before s.chain else before

-- the rules up to 60-evdev
abbrev pub early_rules : Scene → List Lookup
early_rules s = default_rules s ++ (dmi_rules s ++ evdev_rules s)

-- the rules from 60-sensor to 65-libwacom
abbrev pub middle_rules : Kinds → Scene → List Lookup
middle_rules kinds s = sensor_rules kinds.accelerometer s ++ (serial_rules s ++ (battery_rules s ++ tablet_rules s))

-- the rules from 70-camera on
abbrev pub late_rules : Kinds → Scene → List Lookup
late_rules kinds s =
    camera_rules s ++ (kinds_rules kinds s ++ (seat_rules s ++ (net_rules s ++ sound_rules s)))

-- the strings that are asked, by what each gets
abbrev pub found_in : (List ℕ → Told) → Scene → List Found
found_in tells s =
    let early = all_asked tells (early_rules s) in
    let inputs = all_asked tells (input_id_rules s) in
    let kinds = kinds_after (kinds_seen (kinds_after no_kinds early) s) inputs in
    let middle = all_asked tells (middle_rules kinds s) in
    early ++ (inputs ++ (middle ++ all_asked tells (late_rules (kinds_after kinds middle) s)))

-- the strings that are asked for a device
abbrev pub found_for : (List ℕ → Told) → (machine : List ℕ) → List Ancestor → List Found
found_for tells machine [] = []
found_for tells machine (own ∷ parents) = found_in tells (record { own = own; chain = own ∷ parents; machine = cut_short machine })

-- the strings that are asked for a device, by what each gets
abbrev pub lookups : (List ℕ → Told) → Device → List Found
lookups tells d = found_for tells d.machine d.chain
