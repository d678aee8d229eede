-- The forms of the texts that udev asks, and of those that a kernel names a device by (MODALIAS). Each is from the rules file that
-- asks, and from where the kernel or udev writes the text. A form may be wider than what is asked, and is never narrower.
-- Beside each is a text that has it.
use Rattle.std.specs.Prelude.{ℕ, Bool, List, [], ◌∷◌, ◌++◌, ◌+◌, ◌/◌, Option, None, Some, true, false, codes, find, if◌then◌else◌, length, map, nat_eq, nat_le, take}
use Rattle.strsim.specs.Edits.{levenshtein_row}
use Rattle.hwdb_spec.specs.Patterns.{in_span}
use Rattle.hwdb_spec.specs.declared.ByteSet.TheVariants.{Any, AnyHex, Dmi, DmiLeft, HexOrBlank, InputBits, Left, LeftButColon, LowerHex, Name, Names, Units, UpperHex}
use Rattle.hwdb_spec.specs.declared.ByteSet.{ByteSet}
use Rattle.hwdb_spec.specs.Forms.{Form, Piece, counted, fixed, prefix_size, repeated}

-- a form, and a text that has it
pub record Known : Type 0 where
  pub form : Form
  pub example : List ℕ

-- a field that is there in one way
abbrev pub always : List Piece → List (List Piece)
always pieces = pieces ∷ []

-- a field that may be absent
abbrev pub optional : List Piece → List (List Piece)
optional pieces = pieces ∷ [] ∷ []

-- what names a machine (drivers/firmware/dmi-id.c of Linux): each field may be absent; `sku` had two places
abbrev pub dmi_field : ByteSet → List ℕ → List (List Piece)
dmi_field set name = optional (fixed name ∷ repeated set ∷ fixed (codes ":") ∷ [])

-- all fields of a machine's name, in their order
abbrev pub dmi_fields : ByteSet → List (List (List Piece))
dmi_fields set =
    dmi_field set (codes "bvn") ∷ dmi_field set (codes "bvr") ∷ dmi_field set (codes "bd") ∷ dmi_field set (codes "br")
    ∷ dmi_field set (codes "efr") ∷ dmi_field set (codes "svn") ∷ dmi_field set (codes "pn") ∷ dmi_field set (codes "pvr")
    ∷ dmi_field set (codes "sku") ∷ dmi_field set (codes "rvn") ∷ dmi_field set (codes "rn") ∷ dmi_field set (codes "rvr")
    ∷ dmi_field set (codes "cvn") ∷ dmi_field set (codes "ct") ∷ dmi_field set (codes "cvr") ∷ dmi_field set (codes "sku") ∷ []

-- a vendor and a product, four digits each
abbrev pub pair : ByteSet → List Piece
pair set = fixed (codes "v") ∷ counted set 4 ∷ fixed (codes "p") ∷ counted set 4 ∷ []

-- what names an input device (drivers/input/input.c): bus, vendor, product and version, then which events it has
abbrev pub input_pieces : List Piece
input_pieces =
    fixed (codes "input:b") ∷ counted UpperHex 4 ∷ fixed (codes "v") ∷ counted UpperHex 4 ∷ fixed (codes "p") ∷ counted UpperHex 4
    ∷ fixed (codes "e") ∷ counted UpperHex 4 ∷ fixed (codes "-") ∷ repeated InputBits ∷ []

-- what names a device on PCI (drivers/pci/pci-driver.c), after `pci:`
abbrev pub pci_pieces : List Piece
pci_pieces =
    fixed (codes "v") ∷ counted UpperHex 8 ∷ fixed (codes "d") ∷ counted UpperHex 8 ∷ fixed (codes "sv") ∷ counted UpperHex 8
    ∷ fixed (codes "sd") ∷ counted UpperHex 8 ∷ fixed (codes "bc") ∷ counted UpperHex 2 ∷ fixed (codes "sc") ∷ counted UpperHex 2
    ∷ fixed (codes "i") ∷ counted AnyHex 2 ∷ []

-- a name that may have colons in it, with what comes before and after
abbrev pub name_field : List ℕ → List ℕ → List (List Piece)
name_field before after = always (fixed before ∷ repeated Left ∷ fixed after ∷ [])

-- MODALIAS of devices on USB (drivers/usb/core/sysfs.c), and what `modalias_usb` of udev-builtin-hwdb.c asks
abbrev pub usb : Form
usb = record {
  prefix = codes "usb:";
  fields = always (pair UpperHex)
      ∷ ((fixed (codes "d") ∷ counted UpperHex 4 ∷ fixed (codes "dc") ∷ counted UpperHex 2 ∷ fixed (codes "dsc") ∷ counted UpperHex 2
      ∷ fixed (codes "dp") ∷ counted UpperHex 2 ∷ fixed (codes "ic") ∷ counted UpperHex 2 ∷ fixed (codes "isc") ∷ counted UpperHex 2
      ∷ fixed (codes "ip") ∷ counted UpperHex 2 ∷ fixed (codes "in") ∷ counted UpperHex 2 ∷ [])
      ∷ (fixed (codes ":") ∷ repeated Any ∷ []) ∷ []) ∷ [];
}

-- MODALIAS of devices on PCI
abbrev pub pci : Form
pci = record { prefix = codes "pci:"; fields = always pci_pieces ∷ [] }

-- 20-bluetooth-vendor-product.hwdb
abbrev pub bluetooth : Form
bluetooth = record {
  prefix = codes "bluetooth:";
  fields = always (pair UpperHex) ∷ optional (fixed (codes "d") ∷ counted UpperHex 4 ∷ []) ∷ [];
}

-- MODALIAS of ACPI's devices (drivers/acpi/device_sysfs.c): names, a colon after each
abbrev pub acpi : Form
acpi = record { prefix = codes "acpi:"; fields = optional (repeated Names ∷ fixed (codes ":") ∷ []) ∷ [] }

-- MODALIAS of the machine (drivers/firmware/dmi-id.c); 60-dmi-id.rules of systemd 262 may add the tag of its case, colons too
abbrev pub dmi : Form
dmi = record {
  prefix = codes "dmi:";
  fields = dmi_fields Dmi ++ optional (fixed (codes "cat") ∷ repeated Left ∷ fixed (codes ":") ∷ []) ∷ [];
}

-- 60-evdev.rules: MODALIAS of an input device
abbrev pub evdev_input : Form
evdev_input = record { prefix = codes "evdev:"; fields = always input_pieces ∷ [] }

-- 60-evdev.rules: a keyboard of the machine, with the machine's MODALIAS, or without
abbrev pub evdev_machine : Form
evdev_machine = record { prefix = codes "evdev:"; fields = always (fixed (codes "atkbd:dmi:") ∷ []) ∷ dmi_fields DmiLeft }

-- 60-evdev.rules: a keyboard of the machine, whose MODALIAS isn't known
abbrev pub evdev_keyboard : Form
evdev_keyboard = record { prefix = codes "evdev:"; fields = always (fixed (codes "atkbd:") ∷ []) ∷ [] }

-- 60-evdev.rules: a device's name, and perhaps its place and its events, before the machine's MODALIAS
abbrev pub evdev_named : List (List (List Piece))
evdev_named =
    name_field (codes "name:") (codes ":")
    ∷ optional (fixed (codes "phys:") ∷ repeated Left ∷ fixed (codes ":ev:") ∷ repeated HexOrBlank ∷ fixed (codes ":") ∷ []) ∷ []

-- 60-evdev.rules: an input device by its name, with the machine's MODALIAS
abbrev pub evdev_name_machine : Form
evdev_name_machine = record {
  prefix = codes "evdev:";
  fields = evdev_named ++ always (fixed (codes "dmi:") ∷ []) ∷ dmi_fields DmiLeft;
}

-- 60-evdev.rules: an input device by its name alone
abbrev pub evdev_name : Form
evdev_name = record { prefix = codes "evdev:"; fields = evdev_named }

-- a bus, a vendor and a product, and a name
abbrev pub on_bus : List (List (List Piece))
on_bus = always (repeated Name ∷ fixed (codes ":") ∷ []) ∷ always (pair LowerHex) ∷ name_field (codes ":name:") (codes ":") ∷ []

-- 60-input-id.rules
abbrev pub id_input : Form
id_input = record { prefix = codes "id-input:"; fields = always (fixed (codes "modalias:") ∷ input_pieces) ∷ [] }

-- 60-input-id.rules: an input device by its name
abbrev pub id_input_name : Form
id_input_name = record { prefix = codes "id-input:"; fields = on_bus }

-- 70-mouse.rules
abbrev pub mouse : Form
mouse = record {
  prefix = codes "mouse:";
  fields = ((fixed (codes "usb:") ∷ pair LowerHex) ∷ (fixed (codes "bluetooth:") ∷ pair LowerHex) ∷ (fixed (codes "ps2:") ∷ []) ∷ [])
      ∷ name_field (codes ":name:") (codes ":") ∷ [];
}

-- 70-touchpad.rules, 70-joystick.rules
abbrev pub touchpad : Form
touchpad = record { prefix = codes "touchpad:"; fields = on_bus }

-- 70-joystick.rules
abbrev pub joystick : Form
joystick = record { prefix = codes "joystick:"; fields = on_bus }

-- 70-camera.rules
abbrev pub camera : Form
camera = record {
  prefix = codes "camera:";
  fields = always (fixed (codes "usb:") ∷ pair LowerHex) ∷ name_field (codes ":name:") (codes ":") ∷ [];
}

-- 60-sensor.rules: perhaps a label; the MODALIAS; perhaps the machine's
abbrev pub sensed : List (List (List Piece))
sensed =
    optional (repeated Left ∷ fixed (codes ":") ∷ [])
    ∷ always (fixed (codes "modalias:") ∷ repeated LeftButColon ∷ fixed (codes ":") ∷ [])
    ∷ optional (repeated Left ∷ fixed (codes ":") ∷ []) ∷ []

-- 60-sensor.rules: a sensor, with the machine's MODALIAS
abbrev pub sensor_machine : Form
sensor_machine = record {
  prefix = codes "sensor:";
  fields = sensed ++ always (fixed (codes "dmi:") ∷ []) ∷ dmi_fields DmiLeft;
}

-- 60-sensor.rules: a sensor alone
abbrev pub sensor : Form
sensor = record { prefix = codes "sensor:"; fields = sensed }

-- 60-upower-battery.rules: two names; perhaps the machine's MODALIAS
abbrev pub two_names : List (List (List Piece))
two_names = always (repeated LeftButColon ∷ fixed (codes ":") ∷ repeated Left ∷ fixed (codes ":") ∷ []) ∷ []

-- 60-upower-battery.rules: a battery, with the machine's MODALIAS
abbrev pub battery_machine : Form
battery_machine = record {
  prefix = codes "battery:";
  fields = two_names ++ always (fixed (codes "dmi:") ∷ []) ∷ dmi_fields DmiLeft;
}

-- 60-upower-battery.rules: a battery alone
abbrev pub battery : Form
battery = record { prefix = codes "battery:"; fields = two_names }

-- 65-libwacom.rules
abbrev pub libwacom : Form
libwacom = record {
  prefix = codes "libwacom:";
  fields = name_field (codes "name:") (codes ":") ∷ always input_pieces ∷ [];
}

-- 50-udev-default.rules: a node of FireWire, its model perhaps absent
abbrev pub ieee1394_node : Form
ieee1394_node = record {
  prefix = codes "ieee1394:";
  fields = always (fixed (codes "node:ven0x") ∷ counted LowerHex 6 ∷ [])
      ∷ optional (fixed (codes "mo0x") ∷ counted LowerHex 6 ∷ []) ∷ always (fixed (codes "units") ∷ repeated Units ∷ []) ∷ [];
}

-- MODALIAS of a unit of FireWire (drivers/firewire/core-device.c)
abbrev pub ieee1394_unit : Form
ieee1394_unit = record {
  prefix = codes "ieee1394:";
  fields = always (fixed (codes "ven") ∷ counted UpperHex 8 ∷ fixed (codes "mo") ∷ counted UpperHex 8
      ∷ fixed (codes "sp") ∷ counted UpperHex 8 ∷ fixed (codes "ver") ∷ counted UpperHex 8 ∷ []) ∷ [];
}

-- `ieee_oui` of udev-builtin-net_id.c: the first six digits of an address, and the others
abbrev pub oui : Form
oui = record { prefix = codes "OUI:"; fields = always (counted UpperHex 12 ∷ []) ∷ [] }

-- 75-net-description.rules: the driver of a network device
abbrev pub net : Form
net = record {
  prefix = codes "net:";
  fields = always (fixed (codes "naming:dr") ∷ repeated Any ∷ fixed (codes ":") ∷ []) ∷ [];
}

-- MODALIAS of cards on SDIO (drivers/mmc/core/sdio_bus.c)
abbrev pub sdio : Form
sdio = record {
  prefix = codes "sdio:";
  fields = always (fixed (codes "c") ∷ counted UpperHex 2 ∷ fixed (codes "v") ∷ counted UpperHex 4
      ∷ fixed (codes "d") ∷ counted UpperHex 4 ∷ []) ∷ [];
}

-- MODALIAS of devices of Hyper-V (drivers/hv/vmbus_drv.c)
abbrev pub vmbus : Form
vmbus = record { prefix = codes "vmbus:"; fields = always (counted LowerHex 32 ∷ []) ∷ [] }

-- 71-seat.rules: the MODALIAS of a screen's device
abbrev pub fb : Form
fb = record {
  prefix = codes "fb:";
  fields = ((fixed (codes "pci:") ∷ pci_pieces) ∷ (fixed (codes "vmbus:") ∷ counted LowerHex 32 ∷ [])
      ∷ (fixed (codes "platform:") ∷ repeated Left ∷ []) ∷ (fixed (codes "of:") ∷ repeated Left ∷ [])
      ∷ (fixed (codes "virtio:") ∷ repeated Left ∷ []) ∷ (fixed (codes "acpi:") ∷ repeated Left ∷ [])
      ∷ (fixed (codes "usb:") ∷ repeated Left ∷ []) ∷ (fixed (codes "spi:") ∷ repeated Left ∷ [])
      ∷ (fixed (codes "i2c:") ∷ repeated Left ∷ []) ∷ (fixed (codes "xen:") ∷ repeated Left ∷ []) ∷ []) ∷ [];
}

-- 60-tpm2-id.rules
abbrev pub tpm2 : Form
tpm2 = record { prefix = codes "tpm2:"; fields = always (repeated Any ∷ []) ∷ [] }

-- 90-iocost.rules
abbrev pub block : Form
block = record {
  prefix = codes "block:";
  fields = always (repeated Any ∷ fixed (codes ":name:") ∷ repeated Any ∷ fixed (codes ":fwrev:") ∷ repeated Any ∷ fixed (codes ":") ∷ []) ∷ [];
}

-- MODALIAS of other buses (scripts/mod/file2alias.c of Linux, and the buses' own `uevent`), of which nothing more is said here
abbrev pub free : List ℕ → Form
free prefix = record { prefix = prefix; fields = always (repeated Any ∷ []) ∷ [] }

-- a form, and a text that has it
abbrev pub known_with : Form → List ℕ → Known
known_with form example = record { form = form; example = example }

-- The forms that say something.
unfoldable pub known : List Known
known =
    known_with usb (codes "usb:v1D6Bp0002d0601dc09dsc00dp01ic09isc00ip00in00")
    ∷ known_with pci (codes "pci:v00008086d00001237sv00001AF4sd00001100bc06sc00i00")
    ∷ known_with bluetooth (codes "bluetooth:v000Fp1200d1436")
    ∷ known_with acpi (codes "acpi:LNXPWRBN:")
    ∷ known_with dmi (codes "dmi:bvnSeaBIOS:bvr1.16.2:bd04/01/2014:br0.0:svnQEMU:pnStandardPC:pvrpc-i440fx:cvnQEMU:ct1:cvrpc:catAsset: 1234:")
    ∷ known_with evdev_input (codes "evdev:input:b0003v05ACp0250e0111-e0,1,4,11,14,k71,ram4,l0,1,2,sfw")
    ∷ known_with evdev_machine (codes "evdev:atkbd:dmi:bvnLENOVO:bvrN1CET:svnLENOVO:pn20F6:pvrThinkPadX260:")
    ∷ known_with evdev_keyboard (codes "evdev:atkbd:")
    ∷ known_with evdev_name_machine (codes "evdev:name:SIPODEV Touchpad:dmi:bvnAMI:svnHP:pnStream:")
    ∷ known_with evdev_name (codes "evdev:name:AT Translated Set 2 keyboard:phys:isa0060/serio0/input0:ev:120013:")
    ∷ known_with id_input (codes "id-input:modalias:input:b0003v5543p0081e0100-e0,1,2,4,k110,r8,a20,mlsfw")
    ∷ known_with id_input_name (codes "id-input:i2c:v04f3p0029:name:Elan Touchscreen:")
    ∷ known_with mouse (codes "mouse:usb:v046dp4041:name:Logitech MX Master:")
    ∷ known_with touchpad (codes "touchpad:i8042:v0002p000e:name:ETPS/2 Elantech Touchpad:")
    ∷ known_with joystick (codes "joystick:usb:v054cp05c4:name:Wireless Controller:")
    ∷ known_with camera (codes "camera:usb:v0bdap5850:name:HD WebCam:")
    ∷ known_with sensor_machine (codes "sensor:modalias:acpi:KIOX000A:KIOX000A:dmi:bvnAMI:svnLinx:pnLINX1010B:")
    ∷ known_with sensor (codes "sensor:accel-base:modalias:platform:cros-ec-accel:")
    ∷ known_with battery_machine (codes "battery:BAT0:5B10W13930:dmi:bvnLENOVO:svnLENOVO:pn20T0:")
    ∷ known_with battery (codes "battery:BAT0:5B10W13930:")
    ∷ known_with libwacom (codes "libwacom:name:Wacom Intuos Pro M Pen:input:b0003v056Ap0357e0110-e0,1,3,4,k140,r8,a0,mlsfw")
    ∷ known_with ieee1394_node (codes "ieee1394:node:ven0x00000amo0x000001units0x00a02d:0x000102")
    ∷ known_with ieee1394_unit (codes "ieee1394:ven0000000Amo00000001sp0000A02Dver00000102")
    ∷ known_with oui (codes "OUI:00163E5E6C00")
    ∷ known_with net (codes "net:naming:drvirtio_net:")
    ∷ known_with sdio (codes "sdio:c00v02D0d4329")
    ∷ known_with vmbus (codes "vmbus:6f3b5b1e7a3c4d0e9f6a2d1c0b9e8f7a")
    ∷ known_with fb (codes "fb:pci:v00001234d00001111sv00001AF4sd00001100bc03sc00i00")
    ∷ known_with tpm2 (codes "tpm2:INTC:")
    ∷ known_with block (codes "block::name:KINGSTON SA400S37240G:fwrev:SBFKB1C2:") ∷ []

-- the other prefixes
unfoldable pub free_prefixes : List (List ℕ)
free_prefixes =
    codes "hid:"
    ∷ codes "input:"
    ∷ codes "virtio:"
    ∷ codes "i2c:"
    ∷ codes "i3c:"
    ∷ codes "platform:"
    ∷ codes "of:"
    ∷ codes "serio:"
    ∷ codes "spi:"
    ∷ codes "hdaudio:"
    ∷ codes "wmi:"
    ∷ codes "scsi:"
    ∷ codes "pnp:"
    ∷ codes "ssb:"
    ∷ codes "bcma:"
    ∷ codes "pcmcia:"
    ∷ codes "mei:"
    ∷ codes "rmi:"
    ∷ codes "typec:"
    ∷ codes "mdio:"
    ∷ codes "cpu:"
    ∷ codes "tbsvc:"
    ∷ codes "xen:"
    ∷ codes "xen-backend:"
    ∷ codes "auxiliary:"
    ∷ codes "sdw:"
    ∷ codes "mmc:"
    ∷ codes "rpmsg:"
    ∷ codes "ccw:"
    ∷ codes "ap:"
    ∷ codes "css:"
    ∷ codes "vio:"
    ∷ codes "amba:"
    ∷ codes "parisc:"
    ∷ codes "zorro:"
    ∷ codes "eisa:"
    ∷ codes "ipack:"
    ∷ codes "mcb:"
    ∷ codes "mhi:"
    ∷ codes "ulpi:"
    ∷ codes "fsl-mc:"
    ∷ codes "ssam:"
    ∷ codes "ishtp:"
    ∷ codes "dfl:"
    ∷ codes "tee:"
    ∷ codes "coreboot:"
    ∷ codes "cxl:"
    ∷ codes "nd:"
    ∷ codes "dax:"
    ∷ codes "slim:"
    ∷ codes "apr:"
    ∷ codes "hsi:"
    ∷ codes "ac97:"
    ∷ codes "cdx:"
    ∷ codes "vchiq:"
    ∷ codes "rapidio:"
    ∷ codes "nubus:"
    ∷ codes "peci:"
    ∷ codes "moxtet:"
    ∷ codes "siox:"
    ∷ codes "scmi_protocol:"
    ∷ codes "maple:" ∷ []

-- all forms
abbrev pub asked : List Form
asked = map (λ k. k.form) known ++ map free free_prefixes

-- how the texts of these forms begin, up to their first colon
abbrev pub prefixes : List (List ℕ)
prefixes = map (λ k. k.form.prefix) known ++ free_prefixes

-- a byte in lower case
abbrev pub lower : ℕ → ℕ
lower b = if in_span b (65, 90) then b + 32 else b

-- how many bytes have to be put in, taken away or changed (Levenshtein), in lower case
abbrev pub distance : (text prefix : List ℕ) → ℕ
distance text prefix = levenshtein_row nat_eq (map lower text) (map lower prefix) (length (map lower prefix))

-- whether a text is a prefix but for its case, or nearly: one byte in three may differ
abbrev pub is_near : (exact : Bool) → (text prefix : List ℕ) → Bool
is_near exact text prefix = nat_le (distance text prefix) (if exact then 0 else length prefix / 3)

-- the first of two, if there is one
abbrev pub or_else : Option (List ℕ) → Option (List ℕ) → Option (List ℕ)
or_else None other = other
or_else (Some found) other = Some found

-- The prefix that was meant by another one: `evdev:` was `keyboard:` before version 220 of systemd. Our choice.
abbrev pub likely : List ℕ → Option (List ℕ)
likely text =
    if is_near true text (codes "keyboard:") then Some (codes "evdev:")
    else or_else (find (is_near true text) prefixes) (find (is_near false text) prefixes)

-- the same of a pattern's prefix
abbrev pub likely_prefix : List ℕ → Option (List ℕ)
likely_prefix pattern = likely (take (prefix_size pattern) pattern)
