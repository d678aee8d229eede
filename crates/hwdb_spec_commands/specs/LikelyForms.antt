-- The forms of the texts that udev likely asks. They are those of `FormTable`, but for those with a name or with the machine's MODALIAS
-- in them, in place of which are narrower ones. A pattern that matches a text of those forms and none of these is told as unlikely. Which
-- kernels write what is in hwdb-format(7). Which names are likely is our choice. Beside each narrower form is a text that has it.
use Rattle.std.specs.Prelude.{ℕ, List, [], ◌∷◌, ◌++◌, codes, map}
use Rattle.hwdb_spec.specs.declared.ByteSet.TheVariants.{AnyHex, Dmi, DmiLeft, HexOrBlank, Left, LeftButColon, LowerHex, Name, UpperHex}
use Rattle.hwdb_spec.specs.declared.ByteSet.{ByteSet}
use Rattle.hwdb_spec.specs.Forms.{Form, Piece, counted, fixed, repeated}
use Rattle.hwdb_spec_commands.specs.FormTable.{Known, acpi, always, block, bluetooth, evdev_input, evdev_keyboard, fb, free, free_prefixes, id_input, ieee1394_node, ieee1394_unit, input_pieces, known_with, net, optional, oui, pair, pci, sdio, tpm2, usb, vmbus}

-- ---- the machine's MODALIAS (`get_modalias` of drivers/firmware/dmi-id.c)

-- a field of any text
abbrev pub machine_pieces : ByteSet → List ℕ → List Piece
machine_pieces set name = fixed name ∷ repeated set ∷ fixed (codes ":") ∷ []

-- a field of two numbers (`dmi_save_release` of drivers/firmware/dmi_scan.c); a set has their digits and more
abbrev pub release_pieces : List ℕ → List Piece
release_pieces name = fixed name ∷ repeated UpperHex ∷ fixed (codes ".") ∷ repeated UpperHex ∷ fixed (codes ":") ∷ []

-- the fields of the case, and after them `sku`, which is there since Linux 5.15
abbrev pub case_fields : ByteSet → List (List (List Piece))
case_fields set =
    always (machine_pieces set (codes "cvn")) ∷ always (fixed (codes "ct") ∷ repeated UpperHex ∷ fixed (codes ":") ∷ [])
    ∷ always (machine_pieces set (codes "cvr")) ∷ optional (machine_pieces set (codes "sku")) ∷ []

-- All fields in their order. A kernel since 5.8 writes each of them but those of the board, if a machine tells of none, and `efr` and `sku`.
abbrev pub machine_fields : ByteSet → List (List (List Piece))
machine_fields set =
    always (machine_pieces set (codes "bvn")) ∷ always (machine_pieces set (codes "bvr")) ∷ always (machine_pieces set (codes "bd"))
    ∷ always (release_pieces (codes "br")) ∷ optional (release_pieces (codes "efr")) ∷ always (machine_pieces set (codes "svn"))
    ∷ always (machine_pieces set (codes "pn")) ∷ always (machine_pieces set (codes "pvr")) ∷ optional (machine_pieces set (codes "sku"))
    ∷ optional (machine_pieces set (codes "rvn") ++ (machine_pieces set (codes "rn") ++ machine_pieces set (codes "rvr"))) ∷ case_fields set

-- the same after a name or another text
abbrev pub machine_after : List (List (List Piece))
machine_after = always (fixed (codes "dmi:") ∷ []) ∷ machine_fields DmiLeft

-- ---- names

-- A colon in a name, and what comes after it: a blank, or two digits as of `SYNA8004:00 06CB:CD8B Touchpad`. So no name has `:dmi:`.
abbrev pub name_part : List (List Piece)
name_part =
    (fixed (codes ":") ∷ counted AnyHex 2 ∷ repeated LeftButColon ∷ []) ∷ (fixed (codes ": ") ∷ repeated LeftButColon ∷ []) ∷ [] ∷ []

-- a name with at most three colons, with what comes before and after
abbrev pub likely_name : List ℕ → List ℕ → List (List (List Piece))
likely_name before after =
    always (fixed before ∷ repeated LeftButColon ∷ []) ∷ name_part ∷ name_part ∷ name_part ∷ always (fixed after ∷ []) ∷ []

-- a colon in a place, and two digits, as of `usb-0000:00:14.0-1/input0` and of an address
abbrev pub place_part : List (List Piece)
place_part = (fixed (codes ":") ∷ counted AnyHex 2 ∷ repeated LeftButColon ∷ []) ∷ [] ∷ []

-- a place and events
abbrev pub likely_place : List (List (List Piece))
likely_place =
    always (fixed (codes "phys:") ∷ repeated LeftButColon ∷ []) ∷ place_part ∷ place_part ∷ place_part ∷ place_part ∷ place_part
    ∷ always (fixed (codes ":ev:") ∷ repeated HexOrBlank ∷ fixed (codes ":") ∷ []) ∷ []

-- a bus, a vendor and a product, and a name
abbrev pub likely_bus : List (List (List Piece))
likely_bus = always (repeated Name ∷ fixed (codes ":") ∷ []) ∷ always (pair LowerHex) ∷ likely_name (codes ":name:") (codes ":")

-- ---- MODALIAS of a sensor

-- four bytes or more: `dmi` has three
abbrev pub id_pieces : ByteSet → List Piece
id_pieces set = counted set 4 ∷ repeated set ∷ []

-- another id of ACPI
abbrev pub more_ids : List (List Piece)
more_ids = optional (fixed (codes ":") ∷ id_pieces Name)

-- a bus of 60-sensor.rules and what is on it
abbrev pub on_it : List ℕ → List Piece
on_it bus = fixed (codes "modalias:") ∷ fixed bus ∷ fixed (codes ":") ∷ id_pieces LeftButColon

-- perhaps a label; a bus and an id; of ACPI up to two more, and perhaps a colon after the last one
abbrev pub likely_sensed : List (List (List Piece))
likely_sensed =
    optional (repeated LeftButColon ∷ fixed (codes ":") ∷ [])
    ∷ (on_it (codes "acpi") ∷ on_it (codes "platform") ∷ on_it (codes "i2c") ∷ on_it (codes "of") ∷ on_it (codes "usb") ∷ [])
    ∷ more_ids ∷ more_ids ∷ optional (fixed (codes ":") ∷ []) ∷ always (fixed (codes ":") ∷ []) ∷ []

-- ---- the forms

-- the machine by itself, with the tag of its case or without
abbrev pub dmi : Form
dmi = record {
  prefix = codes "dmi:";
  fields = machine_fields Dmi ++ optional (fixed (codes "cat") ∷ repeated Left ∷ fixed (codes ":") ∷ []) ∷ [];
}

-- a keyboard of the machine
abbrev pub evdev_machine : Form
evdev_machine = record { prefix = codes "evdev:"; fields = always (fixed (codes "atkbd:") ∷ []) ∷ machine_after }

-- an input device by its name, with the machine
abbrev pub evdev_name_machine : Form
evdev_name_machine = record { prefix = codes "evdev:"; fields = likely_name (codes "name:") (codes ":") ++ machine_after }

-- the same with its place and its events
abbrev pub evdev_place_machine : Form
evdev_place_machine = record {
  prefix = codes "evdev:";
  fields = likely_name (codes "name:") (codes ":") ++ (likely_place ++ machine_after);
}

-- an input device by its name alone
abbrev pub evdev_name : Form
evdev_name = record { prefix = codes "evdev:"; fields = likely_name (codes "name:") (codes ":") }

-- the same with its place and its events
abbrev pub evdev_place : Form
evdev_place = record { prefix = codes "evdev:"; fields = likely_name (codes "name:") (codes ":") ++ likely_place }

-- an input device by its bus, its numbers and its name
abbrev pub id_input_name : Form
id_input_name = record { prefix = codes "id-input:"; fields = likely_bus }

-- a mouse: on PS/2 it has no numbers
abbrev pub mouse : Form
mouse = record {
  prefix = codes "mouse:";
  fields = ((fixed (codes "usb:") ∷ pair LowerHex) ∷ (fixed (codes "bluetooth:") ∷ pair LowerHex) ∷ (fixed (codes "ps2:") ∷ []) ∷ [])
      ∷ likely_name (codes ":name:") (codes ":");
}

-- a touchpad
abbrev pub touchpad : Form
touchpad = record { prefix = codes "touchpad:"; fields = likely_bus }

-- a joystick
abbrev pub joystick : Form
joystick = record { prefix = codes "joystick:"; fields = likely_bus }

-- a camera
abbrev pub camera : Form
camera = record {
  prefix = codes "camera:";
  fields = always (fixed (codes "usb:") ∷ pair LowerHex) ∷ likely_name (codes ":name:") (codes ":");
}

-- a sensor, with the machine
abbrev pub sensor_machine : Form
sensor_machine = record { prefix = codes "sensor:"; fields = likely_sensed ++ machine_after }

-- a sensor alone
abbrev pub sensor : Form
sensor = record { prefix = codes "sensor:"; fields = likely_sensed }

-- two names without colons
abbrev pub likely_names : List (List (List Piece))
likely_names = always (repeated LeftButColon ∷ fixed (codes ":") ∷ repeated LeftButColon ∷ fixed (codes ":") ∷ []) ∷ []

-- a battery, with the machine
abbrev pub battery_machine : Form
battery_machine = record { prefix = codes "battery:"; fields = likely_names ++ machine_after }

-- a battery alone
abbrev pub battery : Form
battery = record { prefix = codes "battery:"; fields = likely_names }

-- a tablet
abbrev pub libwacom : Form
libwacom = record {
  prefix = codes "libwacom:";
  fields = likely_name (codes "name:") (codes ":") ++ always input_pieces ∷ [];
}

-- the narrower forms
unfoldable pub narrow : List Known
narrow =
    known_with dmi (codes "dmi:bvnSeaBIOS:bvr1.16.2:bd04/01/2014:br0.0:svnQEMU:pnStandardPC(Q35+ICH9,2009):pvrpc-q35-7.2:cvnQEMU:ct1:cvrpc-q35-7.2:sku:")
    ∷ known_with evdev_machine (codes "evdev:atkbd:dmi:bvnLENOVO:bvrN1CET81W_1.49_:bd08/05/2020:br1.49:efr1.13:svnLENOVO:pn20F6CTO1WW:pvrThinkPadX260:rvnLENOVO:rn20F6CTO1WW:rvrSDK0J40697WIN:cvnLENOVO:ct10:cvrNone:skuLENOVO_MT_20F6:")
    ∷ known_with evdev_name_machine (codes "evdev:name:SYNA8004:00 06CB:CD8B Touchpad:dmi:bvnLENOVO:bvrN1CET81W_1.49_:bd08/05/2020:br1.49:svnLENOVO:pn20F6CTO1WW:pvrThinkPadX260:rvnLENOVO:rn20F6CTO1WW:rvr1:cvnLENOVO:ct10:cvrNone:")
    ∷ known_with evdev_place_machine (codes "evdev:name:USB Keyboard:phys:usb-0000:00:14.0-1/input0:ev:120013:dmi:bvnSeaBIOS:bvr1.16.2:bd04/01/2014:br0.0:svnQEMU:pnStandardPC:pvrpc-q35-7.2:cvnQEMU:ct1:cvrpc-q35-7.2:")
    ∷ known_with evdev_name (codes "evdev:name:SYNA8004:00 06CB:CD8B Touchpad:")
    ∷ known_with evdev_place (codes "evdev:name:AT Translated Set 2 keyboard:phys:isa0060/serio0/input0:ev:120013:")
    ∷ known_with id_input_name (codes "id-input:i2c:v04f3p0029:name:Elan Touchscreen:")
    ∷ known_with mouse (codes "mouse:usb:v046dp4041:name:Logitech MX Master:")
    ∷ known_with touchpad (codes "touchpad:i8042:v0002p000e:name:ETPS/2 Elantech Touchpad:")
    ∷ known_with joystick (codes "joystick:usb:v054cp05c4:name:Wireless Controller:")
    ∷ known_with camera (codes "camera:usb:v0bdap5850:name:HD WebCam: HD WebCam:")
    ∷ known_with sensor_machine (codes "sensor:modalias:acpi:KIOX000A:KIOX000A::dmi:bvnAMI:bvr5.11:bd02/03/2018:br5.11:svnLinx:pnLINX1010B:pvrDefault:rvnAMI:rnCherryTrail:rvrV1:cvnDefault:ct3:cvrDefault:")
    ∷ known_with sensor (codes "sensor:accel-base:modalias:platform:cros-ec-accel:")
    ∷ known_with battery_machine (codes "battery:BAT0:5B10W13930:dmi:bvnLENOVO:bvrN2X:bd08/05/2020:br1.49:efr1.13:svnLENOVO:pn20T0:pvrThinkPadT14s:rvnLENOVO:rn20T0:rvr1:cvnLENOVO:ct10:cvrNone:")
    ∷ known_with battery (codes "battery:BAT0:5B10W13930:")
    ∷ known_with libwacom (codes "libwacom:name:Wacom Intuos Pro M Pen:input:b0003v056Ap0357e0110-e0,1,3,4,k140,r8,a0,mlsfw") ∷ []

-- the forms that stay as they are
unfoldable pub kept : List Form
kept =
    usb ∷ pci ∷ bluetooth ∷ acpi ∷ evdev_input ∷ evdev_keyboard ∷ id_input ∷ ieee1394_node ∷ ieee1394_unit ∷ oui ∷ net ∷ sdio ∷ vmbus
    ∷ fb ∷ tpm2 ∷ block ∷ []

-- all of them
abbrev pub likely : List Form
likely = (kept ++ map (λ k. k.form) narrow) ++ map free free_prefixes
