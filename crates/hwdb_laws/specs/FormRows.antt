-- Worked rows of the forms of strings that udev asks: for each way of each field a text that has it, as udev's rules or the kernel write
-- it, and texts that are near one and have none.
use Rattle.std.specs.Prelude.{◌∷◌, ◌≡◌, Bool, List, [], codes, false, map, true, ℕ}
use Rattle.hwdb_spec_commands.specs.FormTable.{acpi, battery, battery_machine, block, bluetooth, camera, dmi, evdev_input, evdev_keyboard, evdev_machine, evdev_name, evdev_name_machine, fb, id_input, id_input_name, ieee1394_node, ieee1394_unit, joystick, libwacom, mouse, net, oui, pci, sdio, sensor, sensor_machine, touchpad, tpm2, usb, vmbus}
use Rattle.hwdb_spec.specs.Forms.{Form, meets_form}
use Rattle.hwdb_spec.specs.Patterns.{tokens}

-- which of some texts have a form
abbrev pub have : Form → List (List ℕ) → List Bool
have form texts = map (λ text. meets_form (tokens text) form) texts

-- A device on USB has its interfaces' numbers, or a name, as `modalias_usb` of udev-builtin-hwdb.c asks. Digits are of upper case.
abbrev pub UsbRows : Type 0
UsbRows =
    have usb
    (codes "usb:v1D6Bp0002d0601dc09dsc00dp01ic09isc00ip00in00" ∷ codes "usb:v1209p0007:Workshop Pad" ∷ codes "usb:v1209p0007:"
    ∷ codes "usb:v1209p0007" ∷ codes "usb:v1d6bp0002:Hub" ∷ codes "usb:v1D6Bp002:Hub" ∷ [])
    ≡ true ∷ true ∷ true ∷ false ∷ false ∷ false ∷ []

-- A mouse is on USB, on Bluetooth or on PS/2, which has no numbers. Digits are of lower case.
abbrev pub MouseRows : Type 0
MouseRows =
    have mouse
    (codes "mouse:usb:v046dpc077:name:USB Mouse:" ∷ codes "mouse:bluetooth:v046dpb01d:name:MX:" ∷ codes "mouse:ps2::name:PS/2 Generic Mouse:"
    ∷ codes "mouse:usb:v046DpC077:name:USB Mouse:" ∷ codes "mouse:ps2:v0002p0001:name:PS/2:" ∷ codes "mouse:i2c:v046dpc077:name:Pad:" ∷ [])
    ≡ true ∷ true ∷ true ∷ false ∷ false ∷ false ∷ []

-- Any bus may be named for a touchpad and a device by its name, but none may be left out.
abbrev pub BusRows : Type 0
BusRows =
    have id_input_name (codes "id-input:i2c:v04f3p0029:name:Elan:" ∷ codes "id-input:usb:v04d9p0024:name:A: B:" ∷ codes "id-input:v04d9p0024:name:A:" ∷ [])
    ≡ true ∷ true ∷ false ∷ []

-- An input device by its bus and numbers, and by its name: with its place and events or without, with the machine or without.
abbrev pub EvdevRows : Type 0
EvdevRows =
    have evdev_input (codes "evdev:input:b0011v0001p0001eAB54-e0,1,4" ∷ codes "evdev:input:b0011v0001p0001eab54-e0,1,4" ∷ codes "evdev:input:b0011v0001p0001eAB54" ∷ [])
    ≡ true ∷ false ∷ false ∷ []

abbrev pub NameRows : Type 0
NameRows =
    have evdev_name (codes "evdev:name:AT Set:" ∷ codes "evdev:name:AT Set:phys:isa0060/serio0:ev:120013:" ∷ codes "evdev:name::" ∷ codes "evdev:name:AT Set" ∷ [])
    ≡ true ∷ true ∷ true ∷ false ∷ []

abbrev pub NameMachineRows : Type 0
NameMachineRows =
    have evdev_name_machine
    (codes "evdev:name:AT Set:dmi:bvnHP:svnHP:pnS:" ∷ codes "evdev:name:AT Set:phys:isa0060:ev:120013:dmi:" ∷ codes "evdev:name:AT Set:dmi:svn:pn" ∷ [])
    ≡ true ∷ true ∷ false ∷ []

-- A keyboard of the machine: each field of the machine's name may be absent, and none may come twice or out of its order, but `sku`.
abbrev pub MachineRows : Type 0
MachineRows =
    have evdev_machine
    (codes "evdev:atkbd:dmi:" ∷ codes "evdev:atkbd:dmi:bvnA:bvrB:bdC:brD:efrE:svnF:pnG:pvrH:skuI:rvnJ:rnK:rvrL:cvnM:ct1:cvrN:" ∷ codes "evdev:atkbd:dmi:bvnA:cvr:skuI:"
    ∷ codes "evdev:atkbd:dmi:pnG:svnF:" ∷ codes "evdev:atkbd:dmi:bvnA:bvnA:" ∷ [])
    ≡ true ∷ true ∷ true ∷ false ∷ false ∷ []

-- The machine by itself, with the tag of its case or without.
abbrev pub DmiRows : Type 0
DmiRows =
    have dmi (codes "dmi:bvnA:bvr1:svnB:pnC:" ∷ codes "dmi:svnB:pnC:catAsset: 12:" ∷ codes "dmi:svnB:pnC:cat12:pvr1" ∷ [])
    ≡ true ∷ true ∷ false ∷ []

-- A sensor may have a label before its MODALIAS, something after it, both or neither.
abbrev pub SensorRows : Type 0
SensorRows =
    have sensor
    (codes "sensor:modalias:acpi:" ∷ codes "sensor:accel-base:modalias:acpi:" ∷ codes "sensor:modalias:acpi:KIOX:" ∷ codes "sensor:accel-base:modalias:acpi:KIOX:"
    ∷ codes "sensor:acpi:KIOX:" ∷ [])
    ≡ true ∷ true ∷ true ∷ true ∷ false ∷ []

abbrev pub SensorMachineRows : Type 0
SensorMachineRows =
    have sensor_machine
    (codes "sensor:modalias:acpi:K:K:dmi:svnL:" ∷ codes "sensor:base:modalias:acpi:dmi:" ∷ codes "sensor:modalias:acpi:K:" ∷ [])
    ≡ true ∷ true ∷ false ∷ []

-- A battery needs both of its names; a camera is on USB; a tablet has the numbers of its input device after its name.
abbrev pub PartRows : Type 0
PartRows =
    have battery_machine (codes "battery:BAT0:5B10:dmi:svnL:" ∷ codes "battery:BAT0:dmi:svnL:" ∷ [])
    ≡ true ∷ false ∷ []

abbrev pub CameraRows : Type 0
CameraRows = have camera (codes "camera:usb:v0bdap5850:name:HD WebCam:" ∷ codes "camera:pci:v0bdap5850:name:HD:" ∷ []) ≡ true ∷ false ∷ []

abbrev pub TabletRows : Type 0
TabletRows =
    have libwacom (codes "libwacom:name:Pen:input:b0003v056Ap0357e0110-e0" ∷ codes "libwacom:name:Pen:" ∷ [])
    ≡ true ∷ false ∷ []

-- A device on Bluetooth may have a version.
abbrev pub BluetoothRows : Type 0
BluetoothRows =
    have bluetooth (codes "bluetooth:v000Fp1200" ∷ codes "bluetooth:v000Fp1200d1436" ∷ codes "bluetooth:v000Fp1200d14" ∷ codes "bluetooth:v000fp1200" ∷ [])
    ≡ true ∷ true ∷ false ∷ false ∷ []

-- ACPI's devices have names with a colon after each, or none at all.
abbrev pub AcpiRows : Type 0
AcpiRows = have acpi (codes "acpi:" ∷ codes "acpi:PNP0C0A:LNXBAT:" ∷ codes "acpi:PNP0C0A" ∷ []) ≡ true ∷ true ∷ false ∷ []

-- The last digits of a device on PCI may be of either case: the kernel writes them in both.
abbrev pub PciRows : Type 0
PciRows =
    have pci
    (codes "pci:v00008086d00001237sv00001AF4sd00001100bc06sc00i0a" ∷ codes "pci:v00008086d00001237sv00001AF4sd00001100bc06sc00i0A"
    ∷ codes "pci:v00008086d00001237sv00001af4sd00001100bc06sc00i00" ∷ [])
    ≡ true ∷ true ∷ false ∷ []

-- A node of FireWire may lack its model.
abbrev pub FireWireRows : Type 0
FireWireRows =
    have ieee1394_node
    (codes "ieee1394:node:ven0x00000amo0x000001units0x00a02d:0x000102" ∷ codes "ieee1394:node:ven0x00000aunits0x00a02d:0x000102" ∷ codes "ieee1394:node:ven0x00000amo0x000001" ∷ [])
    ≡ true ∷ true ∷ false ∷ []

-- An address has twelve digits.
abbrev pub OuiRows : Type 0
OuiRows = have oui (codes "OUI:00163E5E6C00" ∷ codes "OUI:00163E" ∷ codes "OUI:00163e5e6c00" ∷ []) ≡ true ∷ false ∷ false ∷ []

-- A screen's device is named by the bus that it is on.
abbrev pub ScreenRows : Type 0
ScreenRows =
    have fb
    (codes "fb:pci:v00001234d00001111sv00001AF4sd00001100bc03sc00i00" ∷ codes "fb:vmbus:6f3b5b1e7a3c4d0e9f6a2d1c0b9e8f7a" ∷ codes "fb:platform:efifb" ∷ codes "fb:of:NgpuT" ∷ codes "fb:virtio:d00000010v00001AF4"
    ∷ codes "fb:acpi:ACPI0010:" ∷ codes "fb:usb:v17E9p4307" ∷ codes "fb:spi:ili9341" ∷ codes "fb:i2c:ssd1307fb" ∷ codes "fb:xen:vfb" ∷ codes "fb:serio:ty06" ∷ [])
    ≡ true ∷ true ∷ true ∷ true ∷ true ∷ true ∷ true ∷ true ∷ true ∷ true ∷ false ∷ []

-- Touchpads, joysticks and the others whose form has one way: a text that has it, and one that is near it and has none.
abbrev pub SingleRows : Type 0
SingleRows =
    (have touchpad (codes "touchpad:i8042:v0002p000e:name:ETPS/2 Elantech:" ∷ codes "touchpad:i8042:v0002p000E:name:ETPS/2 Elantech:" ∷ []) ≡ true ∷ false ∷ [])
    × (have joystick (codes "joystick:usb:v054cp05c4:name:Wireless Controller:" ∷ codes "joystick:usb:v054cp05c4:Wireless Controller:" ∷ []) ≡ true ∷ false ∷ [])
    × (have id_input (codes "id-input:modalias:input:b0003v5543p0081e0100-e0,1" ∷ codes "id-input:input:b0003v5543p0081e0100-e0,1" ∷ []) ≡ true ∷ false ∷ [])
    × (have evdev_keyboard (codes "evdev:atkbd:" ∷ codes "evdev:atkbd:usb" ∷ []) ≡ true ∷ false ∷ [])
    × (have battery (codes "battery:BAT0:5B10:" ∷ codes "battery:BAT0:" ∷ []) ≡ true ∷ false ∷ [])
    × (have ieee1394_unit (codes "ieee1394:ven0000000Amo00000001sp0000A02Dver00000102" ∷ codes "ieee1394:ven0000000amo00000001sp0000A02Dver00000102" ∷ []) ≡ true ∷ false ∷ [])
    × (have net (codes "net:naming:drvirtio_net:" ∷ codes "net:naming:drvirtio_net" ∷ []) ≡ true ∷ false ∷ [])
    × (have sdio (codes "sdio:c00v02D0d4329" ∷ codes "sdio:c00v02d0d4329" ∷ []) ≡ true ∷ false ∷ [])
    × (have vmbus (codes "vmbus:6f3b5b1e7a3c4d0e9f6a2d1c0b9e8f7a" ∷ codes "vmbus:6F3B5B1E7A3C4D0E9F6A2D1C0B9E8F7A" ∷ []) ≡ true ∷ false ∷ [])
    × (have tpm2 (codes "tpm2:INTC:" ∷ codes "tpm:INTC:" ∷ []) ≡ true ∷ false ∷ [])
    × (have block (codes "block::name:KINGSTON:fwrev:SBFKB1C2:" ∷ codes "block:name:KINGSTON:fwrev:SBFKB1C2:" ∷ []) ≡ true ∷ false ∷ [])
