-- Worked rows: what udev asks for some devices, as its log tells it (systemd 257 and 262), and values as it writes them.
use Rattle.std.specs.Prelude.{Bool, List, ℕ, [], ◌∷◌, ◌++◌, ◌≡◌, codes, false, filter, if◌then◌else◌, length, map, replicate, true}
use Rattle.hwdb_spec.specs.Assignment.{Assignment}
use Rattle.hwdb_spec.specs.Folders.{same}
use Rattle.hwdb_spec_commands.specs.Lookups.{Found, Told, lookups}
use Rattle.hwdb_spec_commands.specs.Sysfs.{Ancestor, Attribute, Device, cut_short, is_run, put_in, written}

-- an attribute, as its file has it
abbrev pub attribute : List ℕ → List ℕ → Attribute
attribute name value = record { name = name; value = value ++ codes "\n" }

-- a device or a parent of one, by its name, subsystem, driver, `uevent` and attributes
abbrev pub ancestor : List ℕ → List ℕ → List ℕ → List ℕ → List Attribute → Ancestor
ancestor name subsystem driver uevent attributes =
    record { path = codes "/devices/" ++ name; name = name; subsystem = subsystem; driver = driver; uevent = uevent; attributes = attributes }

-- a machine with parentheses in its name
abbrev pub machine : List ℕ
machine = codes "dmi:bvrN1CET81W(1.49):\n"

-- a database without an answer
abbrev pub tells_nothing : List ℕ → Told
tells_nothing text = []

-- a database that answers one string alone
abbrev pub tells_one : List ℕ → List ℕ → Told
tells_one answered text = if same text answered then (codes "KEY", []) ∷ [] else []

-- the rules files and strings that are asked
abbrev pub asked : (List ℕ → Told) → List Ancestor → List (List ℕ × List ℕ)
asked tells chain = map (λ (f : Found). (f.rule, f.text)) (lookups tells (record { chain = chain; machine = machine }))

-- ---- an AT keyboard

abbrev pub keyboard_input : Ancestor
keyboard_input =
    ancestor (codes "input4") (codes "input") [] (codes "PRODUCT=11/1/1/ab54\nMODALIAS=input:b0011v0001p0001eAB54-e0,1,4\n")
    (attribute (codes "name") (codes "AT Set (2)") ∷ attribute (codes "phys") (codes "isa0060") ∷ attribute (codes "capabilities/ev") (codes "120013")
    ∷ attribute (codes "id/bustype") (codes "0011") ∷ [])

abbrev pub keyboard : List Ancestor
keyboard =
    ancestor (codes "event4") (codes "input") [] (codes "MAJOR=13\nMINOR=68\n") []
    ∷ keyboard_input
    ∷ ancestor (codes "serio0") (codes "serio") (codes "atkbd") (codes "DRIVER=atkbd\nMODALIAS=serio:ty06\n") []
    ∷ []

-- its strings: parentheses become `_`
abbrev pub KeyboardRow : Type 0
KeyboardRow =
    asked tells_nothing keyboard
    ≡ (codes "60-evdev", codes "evdev:input:b0011v0001p0001eAB54-e0,1,4")
    ∷ (codes "60-evdev", codes "evdev:atkbd:dmi:bvrN1CET81W_1.49_:")
    ∷ (codes "60-evdev", codes "evdev:name:AT Set _2_:dmi:bvrN1CET81W_1.49_:")
    ∷ (codes "60-evdev", codes "evdev:name:AT Set _2_:phys:isa0060:ev:120013:dmi:bvrN1CET81W_1.49_:")
    ∷ (codes "60-input-id", codes "id-input:modalias:input:b0011v0001p0001eAB54-e0,1,4")
    ∷ (codes "65-libwacom", codes "libwacom:name:AT Set _2_:input:b0011v0001p0001eAB54-e0,1,4")
    ∷ []

-- ---- a mouse on USB, and the device itself

abbrev pub usb_mouse : Ancestor
usb_mouse =
    ancestor (codes "1-2") (codes "usb") (codes "usb") (codes "DEVTYPE=usb_device\nPRODUCT=46d/c077/110\n")
    (attribute (codes "idVendor") (codes "046d") ∷ attribute (codes "idProduct") (codes "c077") ∷ attribute (codes "product") (codes "USB Mouse") ∷ [])

abbrev pub mouse : List Ancestor
mouse =
    ancestor (codes "event21") (codes "input") [] [] []
    ∷ ancestor (codes "input21") (codes "input") [] (codes "MODALIAS=input:b0003v046DpC077e0110-e0,1,2,4\n")
    (attribute (codes "name") (codes "USB Mouse") ∷ attribute (codes "capabilities/ev") (codes "17") ∷ attribute (codes "capabilities/key") (codes "70000 0 0 0 0")
    ∷ attribute (codes "capabilities/rel") (codes "103") ∷ attribute (codes "id/bustype") (codes "0003") ∷ attribute (codes "id/vendor") (codes "046d")
    ∷ attribute (codes "id/product") (codes "c077") ∷ [])
    ∷ ancestor (codes "1-2:1.0") (codes "usb") (codes "usbhid") (codes "DEVTYPE=usb_interface\nMODALIAS=usb:v046DpC077d0110\n") []
    ∷ usb_mouse ∷ []

-- the string of the device on USB is made of its attributes, and no hub is asked
abbrev pub UsbRow : Type 0
UsbRow =
    asked tells_nothing (usb_mouse ∷ ancestor (codes "usb1") (codes "usb") (codes "usb") (codes "DEVTYPE=usb_device\nMODALIAS=usb:hub\n") [] ∷ [])
    ≡ (codes "50-udev-default", codes "usb:v046DpC077:USB Mouse") ∷ []

-- an interface's walk goes on to the device on USB, and ends with an answer
abbrev pub WalkRow : Type 0
WalkRow =
    map (λ tells. asked tells (ancestor (codes "hidraw1") (codes "hidraw") [] [] [] ∷ ancestor (codes "1-2:1.0") (codes "usb") [] (codes "MODALIAS=usb:v046DpC077d0110\n") [] ∷ usb_mouse ∷ []))
    (tells_nothing ∷ tells_one (codes "usb:v046DpC077d0110") ∷ [])
    ≡ ((codes "50-udev-default", codes "usb:v046DpC077d0110") ∷ (codes "50-udev-default", codes "usb:v046DpC077:USB Mouse") ∷ [])
    ∷ ((codes "50-udev-default", codes "usb:v046DpC077d0110") ∷ [])
    ∷ []

-- the last string of a mouse: its own rules file, with its numbers in lower case
abbrev pub last_of : List (List ℕ × List ℕ) → List (List ℕ × List ℕ)
last_of [] = []
last_of (x ∷ []) = x ∷ []
last_of (x ∷ y ∷ more) = last_of (y ∷ more)

abbrev pub MouseRow : Type 0
MouseRow = last_of (asked tells_nothing mouse) ≡ (codes "70-mouse", codes "mouse:usb:v046dpc077:name:USB Mouse:") ∷ []

-- ---- a sensor over i2c, a camera and a network card

abbrev pub SensorRow : Type 0
SensorRow =
    asked tells_nothing (ancestor (codes "iio:device0") (codes "iio") [] [] [] ∷ ancestor (codes "i2c-KIOX000A:00") (codes "i2c") (codes "kxcjk1013") [] (attribute (codes "modalias") (codes "acpi:KIOX000A:") ∷ []) ∷ [])
    ≡ (codes "60-sensor", codes "sensor:modalias:acpi:KIOX000A::dmi:bvrN1CET81W_1.49_:") ∷ []

abbrev pub CameraRow : Type 0
CameraRow =
    asked tells_nothing (ancestor (codes "video0") (codes "video4linux") [] [] (attribute (codes "name") (codes "Wide Camera: Wide") ∷ []) ∷ usb_mouse ∷ [])
    ≡ (codes "70-camera", codes "camera:usb:v046dpc077:name:Wide Camera: Wide:") ∷ []

abbrev pub NetRow : Type 0
NetRow =
    asked tells_nothing (ancestor (codes "eth0") (codes "net") [] []
    (attribute (codes "address") (codes "54:ee:75:00:11:22") ∷ attribute (codes "type") (codes "1") ∷ attribute (codes "ifindex") (codes "2") ∷ attribute (codes "iflink") (codes "2")
    ∷ attribute (codes "addr_assign_type") (codes "0") ∷ [])
    ∷ ancestor (codes "0000:00:1f.6") (codes "pci") (codes "e1000e") (codes "MODALIAS=pci:v00008086d0000156F\n") [] ∷ [])
    ≡ (codes "75-net-description", codes "net:naming:dre1000e:") ∷ (codes "75-net-description", codes "pci:v00008086d0000156F") ∷ (codes "net_id", codes "OUI:54EE75001122") ∷ []

-- ---- what systemd 262 asks otherwise

-- a parent in a subsystem
abbrev pub within : List ℕ → Ancestor
within subsystem = ancestor subsystem subsystem [] [] []

-- a touchpad below some parents
abbrev pub pad : List Ancestor → List Ancestor
pad above =
    ancestor (codes "event8") (codes "input") [] [] []
    ∷ ancestor (codes "input8") (codes "input") [] []
    (attribute (codes "name") (codes "Pad") ∷ attribute (codes "capabilities/ev") (codes "1b") ∷ attribute (codes "capabilities/key") (codes "e520 10000 0 0 0 0")
    ∷ attribute (codes "capabilities/abs") (codes "2e0800000000003") ∷ attribute (codes "id/vendor") (codes "04f3") ∷ attribute (codes "id/product") (codes "2a1e") ∷ [])
    ∷ above

-- what 70-touchpad asks of it
abbrev pub pad_strings : List Ancestor → List (List ℕ)
pad_strings above = map (λ (r : List ℕ × List ℕ). r.1) (filter (λ (r : List ℕ × List ℕ). same r.0 (codes "70-touchpad")) (asked tells_nothing (pad above)))

-- both releases know the bus, one, or each another one
abbrev pub PadRow : Type 0
PadRow =
    map pad_strings ((within (codes "serio") ∷ within (codes "platform") ∷ []) ∷ (within (codes "i2c") ∷ within (codes "pci") ∷ [])
    ∷ (within (codes "rmi4") ∷ within (codes "spi") ∷ []) ∷ (within (codes "i2c") ∷ within (codes "usb") ∷ []) ∷ (within (codes "acpi") ∷ within (codes "platform") ∷ []) ∷ [])
    ≡ (codes "touchpad:i8042:v04f3p2a1e:name:Pad:" ∷ []) ∷ (codes "touchpad:i2c:v04f3p2a1e:name:Pad:" ∷ [])
    ∷ (codes "touchpad:rmi:v04f3p2a1e:name:Pad:" ∷ codes "touchpad:spi:v04f3p2a1e:name:Pad:" ∷ [])
    ∷ (codes "touchpad:usb:v04f3p2a1e:name:Pad:" ∷ codes "touchpad:i2c:v04f3p2a1e:name:Pad:" ∷ [])
    ∷ (codes "touchpad:acpi:v04f3p2a1e:name:Pad:" ∷ []) ∷ []

-- a machine with a tag of its case, by what its file `modalias` has
abbrev pub tagged : List ℕ → List Ancestor
tagged value =
    ancestor (codes "id") (codes "dmi") [] (codes "MODALIAS=dmi:bvnX(1):\n") (attribute (codes "modalias") value ∷ attribute (codes "chassis_asset_tag") (codes "Asset: 1234 ") ∷ []) ∷ []

-- its string, and the string with the tag; not if the file has more than 511 bytes
abbrev pub TaggedRow : Type 0
TaggedRow =
    map (λ value. asked tells_nothing (tagged value)) (codes "dmi:bvnX(1):" ∷ replicate 512 97 ∷ [])
    ≡ ((codes "50-udev-default", codes "dmi:bvnX(1):") ∷ (codes "60-dmi-id", codes "dmi:bvnX_1_:catAsset: 1234:") ∷ [])
    ∷ ((codes "50-udev-default", codes "dmi:bvnX(1):") ∷ []) ∷ []

-- a battery that can be told when to end charging, and not when to begin; another one
abbrev pub BatteryRow : Type 0
BatteryRow =
    map (λ name. asked tells_nothing (ancestor (codes "BAT0") (codes "power_supply") [] [] (attribute name (codes "100") ∷ attribute (codes "model_name") (codes "Cell") ∷ []) ∷ []))
    (codes "charge_control_end_threshold" ∷ codes "charge_control_limit" ∷ [])
    ≡ ((codes "60-upower-battery", codes "battery:BAT0:Cell:dmi:bvrN1CET81W_1.49_:") ∷ []) ∷ [] ∷ []

-- ---- values

-- 511 bytes are taken, and no more: of what is longer there is no string, and of the machine's name the first ones
abbrev pub LongRow : Type 0
LongRow =
    (map length (put_in (replicate 511 97) ∷ cut_short (replicate 512 97) ∷ []) ≡ 511 ∷ 511 ∷ [])
    × (map is_run (put_in (replicate 511 97) ∷ put_in (replicate 512 97) ∷ []) ≡ true ∷ false ∷ [])

-- what is left, what becomes `_`, white space at the end and within
abbrev pub WrittenRow : Type 0
WrittenRow =
    map written (codes "a(b)\"c" ∷ codes "x\\x20y\\n" ∷ codes "end \t\n" ∷ codes "a\tb" ∷ codes "#+-.:=@_/ $%?," ∷ [])
    ≡ codes "a_b__c" ∷ codes "x\\x20y_n" ∷ codes "end" ∷ codes "a b" ∷ codes "#+-.:=@_/ $%?," ∷ []
