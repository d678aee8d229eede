-- Worked rows of the records of `device --pattern`: patterns for strings, and the records of a keyboard, of a mouse and of small devices.
use Rattle.std.specs.Prelude.{List, ℕ, [], ◌∷◌, ◌++◌, ◌≡◌, codes, map}
use Rattle.hwdb_spec_commands.specs.DeviceRecords.{lasting, pattern_for, records_text}
use Rattle.hwdb_spec_commands.specs.DeviceTexts.{found_form}
use Rattle.hwdb_spec_commands.specs.Lookups.{lookups}
use Rattle.hwdb_spec_commands.specs.declared.devices.DeviceForm.TheVariants as form
use Rattle.hwdb_rules.specs.Rows.{keyboard, mouse, usb_mouse}
use Rattle.hwdb_device.specs.Rows.{asked, device, l, tells}

-- bytes that aren't themselves in a pattern
abbrev pub PatternRow : Type 0
PatternRow = pattern_for (codes "a*b?c[d]e\\f#g") ≡ codes "a?b?c?d]e?f?g"

-- strings with numbers: neither the version nor the name stays
abbrev pub NumberRows : Type 0
NumberRows =
    map (lasting (codes "dmi:bvnA:svnB:pnC:"))
    (codes "evdev:input:b0003v04D9p0024e0110-e0,1,4" ∷ codes "id-input:modalias:input:b0005v046DpB016e1200-e0" ∷ codes "input:b0003v04D9p0024e0110-e0"
    ∷ codes "mouse:usb:v046dpc077:name:USB Mouse:" ∷ codes "touchpad:bluetooth:v05acp0265:name:Pad:" ∷ codes "joystick:usb:v045ep028e:name:Pad:"
    ∷ codes "usb:v04D9p0024:USB Keyboard" ∷ codes "pci:v00008086d00001237sv00001AF4" ∷ [])
    ≡ codes "evdev:input:b0003v04D9p0024*" ∷ codes "id-input:modalias:input:b0005v046DpB016*" ∷ codes "input:b0003v04D9p0024*"
    ∷ codes "mouse:usb:v046dpc077:*" ∷ codes "touchpad:bluetooth:v05acp0265:*" ∷ codes "joystick:usb:v045ep028e:*"
    ∷ codes "usb:v04D9p0024*" ∷ codes "pci:v00008086d00001237*" ∷ []

-- what names a laptop and another one
abbrev pub thinkpad : List ℕ
thinkpad = codes "dmi:bvnLENOVO:bvrR07ET63W_2.03_:bd03/15/2016:br2.3:efr1.14:svnLENOVO:pn20FW0005GE:pvrThinkPadT460p:rvnLENOVO:"

abbrev pub spectre : List ℕ
spectre = codes "dmi:bvnInsyde:bvrF.41:bd11/29/2019:br15.41:svnHP:pnHPSpectre#13:pvr1:rvnHP:"

-- strings with the machine in them: neither the BIOS nor what comes after the model stays; of Lenovo's model its type
abbrev pub MachineRows : Type 0
MachineRows =
    (map (lasting thinkpad) ((codes "evdev:atkbd:" ++ thinkpad) ∷ thinkpad ∷ (thinkpad ++ codes "catNone:") ∷ codes "touchpad:i8042:v0002p0007:name:Pad:" ∷ [])
    ≡ codes "evdev:atkbd:dmi:*:svnLENOVO:pn20FW*" ∷ codes "dmi:*:svnLENOVO:pn20FW*" ∷ codes "dmi:*:svnLENOVO:pn20FW*" ∷ codes "touchpad:i8042:v0002p0007:name:Pad:" ∷ [])
    × (map (lasting spectre) ((codes "sensor:modalias:acpi:KIOX000A::" ++ spectre) ∷ (codes "evdev:name:a [b] dmi:c:" ++ spectre) ∷ [])
    ≡ codes "sensor:modalias:acpi:KIOX000A::dmi:*:svnHP:pnHPSpectre?13:*" ∷ codes "evdev:name:a ?b] dmi:c:dmi:*:svnHP:pnHPSpectre?13:*" ∷ [])
    × (map (λ machine. lasting machine (codes "evdev:atkbd:" ++ machine)) ([] ∷ codes "dmi:bvnA:" ∷ codes "dmi:bvnA:svnB:" ∷ codes "of:N" ∷ [])
    ≡ codes "evdev:atkbd:" ∷ codes "evdev:atkbd:dmi:*" ∷ codes "evdev:atkbd:dmi:*:svnB:*" ∷ codes "evdev:atkbd:of:N" ∷ [])

-- what is set at keys and axes
abbrev keys : List ℕ
keys = l (codes "# KEYBOARD_KEY_<scan code>=<key name>") ++ (l (codes "# EVDEV_ABS_<axis>=<min>:<max>:<resolution>") ++ l (codes "# POINTINGSTICK_SENSITIVITY=<0 to 255>"))

-- the record of a keyboard of the machine: nothing is said of its place, and nothing of this BIOS
abbrev pub KeysRow : Type 0
KeysRow = found_form form.Pattern (device keyboard) [] (lookups tells (device keyboard)) ≡ l (codes "evdev:atkbd:dmi:*") ++ (keys ++ l (codes ""))

-- the records of a mouse on USB, one for each prefix
abbrev pub MouseRow : Type 0
MouseRow =
    found_form form.Pattern (device mouse) [] (lookups tells (device mouse))
    ≡ l (codes "evdev:input:b0003v046DpC077*")
    ++ (keys
    ++ (l (codes "")
    ++ (l (codes "id-input:modalias:input:b0003v046DpC077*")
    ++ (l (codes "# ID_INPUT_<kind, as JOYSTICK>=<0 or 1>")
    ++ (l (codes "")
    ++ (l (codes "mouse:usb:v046dpc077:*")
    ++ (l (codes "# MOUSE_DPI=<dpi>@<hz>")
    ++ (l (codes "# MOUSE_WHEEL_CLICK_ANGLE=<degrees>")
    ++ l (codes "")))))))))

-- the device on USB itself, and the record of any other string
abbrev pub OtherRows : Type 0
OtherRows =
    (found_form form.Pattern (device (usb_mouse ∷ [])) [] (lookups tells (device (usb_mouse ∷ [])))
    ≡ l (codes "usb:v046DpC077*") ++ (l (codes "# ID_AUTOSUSPEND=<0 or 1>") ++ (l (codes "# ID_AUTOSUSPEND_DELAY_MS=<milliseconds>") ++ l (codes ""))))
    × (records_text (codes "power_supply") (codes "dmi:bvnA:svnB:pnC:") (asked (codes "60-upower-battery") (codes "battery:BAT0:X:dmi:bvnA:svnB:pnC:") [] ∷ [])
    ≡ l (codes "battery:BAT0:X:dmi:*:svnB:pnC:*") ++ (l (codes "# <KEY>=<value>") ++ l (codes "")))
    × (records_text (codes "pci") [] (asked (codes "50-udev-default") (codes "touchpad:x") [] ∷ asked (codes "50-udev-default") (codes "pci:v1") [] ∷ [])
    ≡ l (codes "touchpad:x") ++ (l (codes "# ID_INPUT_TOUCHPAD_INTEGRATION=<internal or external>") ++ (l (codes "")
    ++ (l (codes "pci:v1*") ++ (l (codes "# ID_AUTOSUSPEND=<0 or 1>") ++ (l (codes "# ID_AUTOSUSPEND_DELAY_MS=<milliseconds>") ++ l (codes "")))))))
    × (records_text (codes "iio") [] (asked (codes "60-sensor") (codes "sensor:x") [] ∷ asked (codes "70-joystick") (codes "joystick:y") [] ∷ [])
    ≡ l (codes "joystick:y") ++ (l (codes "# ID_INPUT_JOYSTICK_INTEGRATION=<internal or external>") ++ (l (codes "")
    ++ (l (codes "sensor:x") ++ (l (codes "# ACCEL_MOUNT_MATRIX=<x1>, <y1>, <z1>; <x2>, <y2>, <z2>; <x3>, <y3>, <z3>") ++ l (codes ""))))))
