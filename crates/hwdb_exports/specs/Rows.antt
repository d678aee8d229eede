-- Worked rows over a small export: a keyboard with its node, a device on USB, one without a name on USB, and a network device. What the
-- definitions give when they are computed.
use Rattle.std.specs.Prelude.{◌≡◌, ℕ, List, [], ◌∷◌, ◌++◌, Some, None, codes, map, true, false}
use Rattle.hwdb_spec_commands.specs.DeviceTree.{Sight, text_of}
use Rattle.hwdb_spec_commands.specs.Exports.{export_sight, is_export, no_export_text, read_as, tells_machine, without_machine}

-- lines that are before the first device, and then devices, some without an empty line before them
abbrev pub keyboard : List ℕ
keyboard =
    codes "E: SUBSYSTEM=lost\nP: /devices/k/input3\nM: input3\nE: PRODUCT=3/46d/c31c/110\nE: NAME=\"A \"B\"\"\nE: EV=120013\nE: MODALIAS=input:b3\nE: SUBSYSTEM=input\n"
    ++ codes "P: /devices/k/input3/event3\r\nE: SUBSYSTEM=input\r\nE: SUBSYSTEM=other\n\n"

abbrev pub others : List ℕ
others =
    codes "P: /devices/u\nE: SUBSYSTEM=usb\nE: DEVTYPE=usb_device\nE: DRIVER=usb\nE: PRODUCT=46d/c31c/6402\nE: ID_MODEL_ENC=USB\\x20K\\x5cx\\x4\nE: ID_MODEL_ID=c31c\n"
    ++ (codes "P: /devices/w\nE: SUBSYSTEM=usb\nE: DEVTYPE=usb_device\nE: ID_MODEL_ENC=0a2b\nE: ID_MODEL_ID=0a2b\n"
    ++ codes "P: /devices/n\nE: SUBSYSTEM=net\nE: IFINDEX=2\nE: ID_NET_NAME_MAC=enx54ee75a00bc1\n")

abbrev pub bytes : List ℕ
bytes = keyboard ++ others

abbrev pub small : Sight
small = export_sight bytes

-- attributes of the input device, also by way of its node's link, and the file `uevent`
abbrev pub InputRows : Type 0
InputRows =
    map (text_of small)
    (codes "/sys/devices/k/input3/name" ∷ codes "/sys/devices/k/input3/id/bustype" ∷ codes "/sys/devices/k/input3/id/vendor" ∷ codes "/sys/devices/k/input3/id/product"
    ∷ codes "/sys/devices/k/input3/capabilities/ev" ∷ codes "/sys/devices/k/input3/uevent" ∷ codes "/sys/devices/k/input3/event3/device/name"
    ∷ codes "/sys/devices/k/input3/event3/device/id/product" ∷ codes "/sys/devices/k/input3/idVendor" ∷ codes "/sys/devices/k/input3/event3/name" ∷ [])
    ≡ Some (codes "A \"B\"") ∷ Some (codes "0003") ∷ Some (codes "046d") ∷ Some (codes "c31c") ∷ Some (codes "120013") ∷ Some (codes "MODALIAS=input:b3\n") ∷ Some (codes "A \"B\"") ∷ Some (codes "c31c")
    ∷ None ∷ None ∷ []

-- those of devices on USB, one of which has no name, and of a network device
abbrev pub OtherRows : Type 0
OtherRows =
    map (text_of small)
    (codes "/sys/devices/u/idVendor" ∷ codes "/sys/devices/u/idProduct" ∷ codes "/sys/devices/u/product" ∷ codes "/sys/devices/u/uevent" ∷ codes "/sys/devices/w/product" ∷ codes "/sys/devices/u/id/vendor"
    ∷ codes "/sys/devices/n/address" ∷ codes "/sys/devices/n/type" ∷ codes "/sys/devices/n/addr_assign_type" ∷ codes "/sys/devices/n/iflink" ∷ codes "/sys/devices/w/address" ∷ [])
    ≡ Some (codes "046d") ∷ Some (codes "c31c") ∷ Some (codes "USB K\\x\\x4") ∷ Some (codes "DEVTYPE=usb_device\n") ∷ Some [] ∷ None ∷ Some (codes "54ee75a00bc1") ∷ Some (codes "1") ∷ Some (codes "0")
    ∷ Some (codes "2") ∷ None ∷ []

-- where links lead, and what folders list
abbrev pub PlaceRows : Type 0
PlaceRows =
    (map small.place
    (codes "/sys/class/input/event3" ∷ codes "/sys/devices/k/input3/event3/subsystem" ∷ codes "/sys/devices/u/driver" ∷ codes "/sys/class/usb/u/modalias" ∷ codes "/sys/class/lost" ∷ codes "/sys/class/input" ∷ [])
    ≡ Some (codes "/sys/devices/k/input3/event3") ∷ Some (codes "/sys/class/input") ∷ Some (codes "/sys/bus/drivers/usb") ∷ Some (codes "/sys/devices/u/modalias") ∷ None ∷ Some (codes "/sys/class/input") ∷ [])
    × (map small.names (codes "/sys/class" ∷ codes "/sys/class/input" ∷ codes "/sys/class/usb" ∷ codes "/sys/class/lost" ∷ [])
    ≡ (codes "input" ∷ codes "input" ∷ codes "usb" ∷ codes "usb" ∷ codes "net" ∷ []) ∷ (codes "input3" ∷ codes "event3" ∷ []) ∷ (codes "u" ∷ codes "w" ∷ []) ∷ [] ∷ [])

-- values by the word for how they are written
abbrev pub ValueRows : Type 0
ValueRows =
    map (λ word. read_as word [] (codes "12:3/4:56/7"))
    (codes "plain" ∷ codes "quoted" ∷ codes "first" ∷ codes "second" ∷ codes "third" ∷ codes "before" ∷ codes "after" ∷ codes "digits" ∷ codes "decoded" ∷ codes "none" ∷ codes "one" ∷ [])
    ≡ codes "12:3/4:56/7" ∷ codes "2:3/4:56/" ∷ codes "12:3" ∷ codes "4:56" ∷ codes "0007" ∷ codes "12" ∷ codes "3/4:56/7" ∷ codes "3/4:56/7" ∷ codes "12:3/4:56/7" ∷ codes "0" ∷ codes "1" ∷ []

-- two devices of one path: the later one counts
abbrev pub TwiceRows : Type 0
TwiceRows =
    text_of (export_sight (codes "P: /devices/x\nE: MODALIAS=one\nP: /devices/x\nE: MODALIAS=two\n")) (codes "/sys/devices/x/modalias") ≡ Some (codes "two")

-- what is said
abbrev pub SaidRows : Type 0
SaidRows =
    (map is_export (bytes ∷ codes "P: x\n" ∷ codes " P: /devices/x\n" ∷ [] ∷ []) ≡ true ∷ false ∷ false ∷ false ∷ [])
    × (tells_machine bytes ≡ false)
    × (without_machine (codes "r.txt") bytes ≡ codes "hwdb: r.txt: no DMI in it: strings end without what the firmware says\n")
    × (without_machine (codes "r.txt") (codes "P: /devices/virtual/dmi/id\nE: MODALIAS=dmi:\n") ≡ [])
    × (no_export_text (codes "r.txt") ≡ codes "no export: r.txt: 'udevadm info --export-db > report.txt' writes one")
