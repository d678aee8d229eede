-- Worked rows of the forms of strings that udev likely asks: texts of each, patterns that match one, and others that are near and match
-- none.
use Rattle.std.specs.Prelude.{◌∷◌, ◌≡◌, [], codes, false, true}
use Rattle.hwdb_spec_commands.specs.LikelyForms
use Rattle.hwdb_laws.specs.FormRows.{have}

-- A field may be left out only if it is `efr`, `sku` or the board. Numbers are numbers, and the order is the kernel's.
abbrev pub MachineRows : Type 0
MachineRows =
    have LikelyForms.evdev_machine
    (codes "evdev:atkbd:dmi:bvnA:bvr1:bd01/02/2020:br1.2:efr1.0:svnF:pnG:pvrH:rvnJ:rnK:rvrL:cvnM:ct1:cvrN:sku7:"
    ∷ codes "evdev:atkbd:dmi:bvnA:bvr1:bd01/02/2020:br1.2:svnF:pnG:pvrH:sku7:cvnM:ct1:cvrN:"
    ∷ codes "evdev:atkbd:dmi:bvnA:bvr1:bd01/02/2020:br1.2:svnF:pnG:pvrH:cvnM:ct1:cvrN:"
    ∷ codes "evdev:atkbd:dmi:bvn*:svnF*:pn*"
    ∷ codes "evdev:atkbd:dmi:*:cvr*"
    ∷ codes "evdev:atkbd:dmi:bvnA:bvr1:bd1:svnF:pnG:pvrH:cvnM:ct1:cvrN:"
    ∷ codes "evdev:atkbd:dmi:bvnA:bvr1:bd01/02/2020:br1.2:svnF:pnG:cvnM:ct1:cvrN:"
    ∷ codes "evdev:atkbd:dmi:bvnA:bvr1:bd01/02/2020:br1.2:svnF:pnG:pvrH:rnK:cvnM:ct1:cvrN:"
    ∷ codes "evdev:atkbd:dmi:svnF*"
    ∷ codes "evdev:atkbd:dmi:*:svnF G:*"
    ∷ codes "evdev:atkbd:dmi:*pnG:svnF:*"
    ∷ codes "evdev:atkbd:dmi:*:ctx:*"
    ∷ codes "evdev:atkbd:dmi:" ∷ [])
    ≡ true ∷ true ∷ true ∷ true ∷ true ∷ false ∷ false ∷ false ∷ false ∷ false ∷ false ∷ false ∷ false ∷ []

-- The machine by itself, with the tag of its case or without.
abbrev pub DmiRows : Type 0
DmiRows =
    have LikelyForms.dmi
    (codes "dmi:bvnA:bvr1:bd01/02/2020:br1.2:svnF:pnG:pvrH:cvnM:ct1:cvrN:"
    ∷ codes "dmi:bvnA:bvr1:bd01/02/2020:br1.2:svnF:pnG:pvrH:cvnM:ct1:cvrN:sku(7):catA: 1:"
    ∷ codes "dmi:bvnA:svnF:" ∷ [])
    ≡ true ∷ true ∷ false ∷ []

-- A colon in a name is before a blank or two digits, and there are at most three.
abbrev pub NameRows : Type 0
NameRows =
    have LikelyForms.evdev_name
    (codes "evdev:name:SYNA8004:00 06CB:CD8B Touchpad:"
    ∷ codes "evdev:name:Cam: Cam:"
    ∷ codes "evdev:name::"
    ∷ codes "evdev:name:*:"
    ∷ codes "evdev:name:A:dmi:"
    ∷ codes "evdev:name:A:00:00:00:00:"
    ∷ codes "evdev:name:A:ev:1:phys:x:" ∷ [])
    ≡ true ∷ true ∷ true ∷ true ∷ false ∷ false ∷ false ∷ []

-- After a name comes the machine, whose fields are as above.
abbrev pub NameMachineRows : Type 0
NameMachineRows =
    have LikelyForms.evdev_name_machine
    (codes "evdev:name:A:00 B:dmi:bvnA:bvr1:bd01/02/2020:br1.2:svnF:pnG:pvrH:cvnM:ct1:cvrN:"
    ∷ codes "evdev:name:A:dmi:*:svnF:*"
    ∷ codes "evdev:name:A:dmi:*:svnF G:*"
    ∷ codes "evdev:name:A:dmi:*:svxF:*"
    ∷ codes "evdev:name:A:dmi:svnF*" ∷ [])
    ≡ true ∷ true ∷ false ∷ false ∷ false ∷ []

-- A colon in a place is before two digits, and there are at most five.
abbrev pub PlaceRows : Type 0
PlaceRows =
    have LikelyForms.evdev_place
    (codes "evdev:name:A:phys:usb-0000:00:14.0-1/input0:ev:120013:"
    ∷ codes "evdev:name:A:phys:00:1a:7d:da:71:13:ev:1f:"
    ∷ codes "evdev:name:A:phys:x:y:ev:b:" ∷ [])
    ≡ true ∷ true ∷ false ∷ []

-- The same with the machine.
abbrev pub PlaceMachineRows : Type 0
PlaceMachineRows =
    have LikelyForms.evdev_place_machine
    (codes "evdev:name:A:phys:isa0060/serio0/input0:ev:120013:dmi:bvnA:bvr1:bd01/02/2020:br1.2:svnF:pnG:pvrH:cvnM:ct1:cvrN:"
    ∷ codes "evdev:name:A:phys:x:dmi:bvnA:bvr1:bd01/02/2020:br1.2:svnF:pnG:pvrH:cvnM:ct1:cvrN:" ∷ [])
    ≡ true ∷ false ∷ []

-- Names of other strings have no other colons.
abbrev pub BusRows : Type 0
BusRows =
    have LikelyForms.id_input_name
    (codes "id-input:i2c:v04f3p0029:name:Elan: 1:"
    ∷ codes "id-input:i2c:v04f3p0029:name:Elan:dmi:" ∷ [])
    ≡ true ∷ false ∷ []

-- the same of a mouse
abbrev pub MouseRows : Type 0
MouseRows =
    have LikelyForms.mouse
    (codes "mouse:usb:v046dpc077:name:USB Mouse:"
    ∷ codes "mouse:bluetooth:v046dpb01d:name:MX:00:"
    ∷ codes "mouse:ps2::name:PS/2:"
    ∷ codes "mouse:usb:v046dpc077:name:USB Mouse:dmi:" ∷ [])
    ≡ true ∷ true ∷ true ∷ false ∷ []

-- the same of a camera
abbrev pub CameraRows : Type 0
CameraRows =
    have LikelyForms.camera
    (codes "camera:usb:v0bdap5850:name:HD Cam: HD Cam:"
    ∷ codes "camera:usb:v0bdap5850:name:HD Cam:x:" ∷ [])
    ≡ true ∷ false ∷ []

-- the same of a touchpad
abbrev pub TouchpadRows : Type 0
TouchpadRows =
    have LikelyForms.touchpad
    (codes "touchpad:i8042:v0002p000e:name:Elantech:"
    ∷ codes "touchpad:i8042:v0002p000e:name:Elantech:dmi:*" ∷ [])
    ≡ true ∷ false ∷ []

-- the same of a joystick
abbrev pub JoystickRows : Type 0
JoystickRows =
    have LikelyForms.joystick
    (codes "joystick:usb:v054cp05c4:name:Wireless Controller:"
    ∷ codes "joystick:usb:v054cp05c4:name:Pad:dmi:*" ∷ [])
    ≡ true ∷ false ∷ []

-- A sensor is on one of five buses, and its ids have four bytes or more.
abbrev pub SensorRows : Type 0
SensorRows =
    have LikelyForms.sensor
    (codes "sensor:modalias:acpi:KIOX000A:KIOX000A::"
    ∷ codes "sensor:accel-base:modalias:platform:cros-ec-accel:"
    ∷ codes "sensor:modalias:i2c:bmc150_accel:"
    ∷ codes "sensor:modalias:of:NaccelT_null_Cbosch,bma150:"
    ∷ codes "sensor:modalias:usb:v1209p0007:"
    ∷ codes "sensor:acpi:KIOX000A*"
    ∷ codes "sensor:modalias:spi:bmi160:"
    ∷ codes "sensor:modalias:acpi:dmi:"
    ∷ codes "sensor:a:b:modalias:i2c:bmc150:" ∷ [])
    ≡ true ∷ true ∷ true ∷ true ∷ true ∷ false ∷ false ∷ false ∷ false ∷ []

-- the same of a sensor with the machine
abbrev pub SensorMachineRows : Type 0
SensorMachineRows =
    have LikelyForms.sensor_machine
    (codes "sensor:modalias:acpi:KIOX000A:KIOX000A:dmi:bvnA:bvr1:bd01/02/2020:br1.2:svnF:pnG:pvrH:cvnM:ct1:cvrN:"
    ∷ codes "sensor:modalias:acpi:KIOX000A*:dmi:*:svnF*:pnG*"
    ∷ codes "sensor:modalias:acpi:KIOX000A*:dmi:*:svnF G*"
    ∷ codes "sensor:modalias:acpi:KIOX000A:*:dmi:svnF:*"
    ∷ codes "sensor:modalias:acpi:KIOX000A*:dmi:*:pnG::*" ∷ [])
    ≡ true ∷ true ∷ false ∷ false ∷ false ∷ []

-- A battery has two names without colons.
abbrev pub BatteryRows : Type 0
BatteryRows =
    have LikelyForms.battery
    (codes "battery:BAT0:5B10 W:"
    ∷ codes "battery:BAT0:5B10:W:" ∷ [])
    ≡ true ∷ false ∷ []

-- the same of a battery with the machine
abbrev pub BatteryMachineRows : Type 0
BatteryMachineRows =
    have LikelyForms.battery_machine
    (codes "battery:BAT0:*:dmi:bvnA:bvr1:bd01/02/2020:br1.2:svnF:pnG:pvrH:cvnM:ct1:cvrN:"
    ∷ codes "battery:BAT0:5B10:dmi:svnF*" ∷ [])
    ≡ true ∷ false ∷ []

-- the same of a tablet
abbrev pub TabletRows : Type 0
TabletRows =
    have LikelyForms.libwacom
    (codes "libwacom:name:Wacom Pen:input:b0003v056Ap0357e0110-e0,1"
    ∷ codes "libwacom:name:Wacom:Pen:input:b0003v056Ap0357e0110-e0,1" ∷ [])
    ≡ true ∷ false ∷ []
