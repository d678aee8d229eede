-- Worked rows of `device` over a small sysfs (sysfs-rules.rst of the kernel): a card on PCI, whose MODALIAS line 20 of 50-udev-default.rules
-- asks for.
use Rattle.std.specs.List.{list_any}
use Rattle.std.specs.Option.{option_map_or}
use Rattle.std.specs.Prelude.{◌∷◌, ◌≡◌, List, None, Option, Some, [], codes, false, find, map, option_map, true, ℕ}
use Rattle.hwdb_spec_commands.specs.DeviceAsked.{device_list, device_meant}
use Rattle.hwdb_spec_program.specs.DeviceErrors.{asked_names}
use Rattle.hwdb_spec_commands.specs.DeviceFound.{fitting, has_ids, is_other_input, only, places_meant}
use Rattle.hwdb_spec_commands.specs.DeviceTexts.{device_text, files_device_text}
use Rattle.hwdb_spec_commands.specs.DeviceTree.{Sight}
use Rattle.hwdb_spec.specs.Folders.{Source, same}
use Rattle.hwdb_spec_commands.specs.Sysfs.{Ancestor, Device}
use Rattle.hwdb_spec_commands.specs.SysfsAnswers.{nothing_there, sight_by}
use Rattle.hwdb_plan.specs.Sysfs.{place_of, says}
use Rattle.hwdb_plan.specs.Plans.{Plan}
use Rattle.hwdb_spec.specs.Tree.{Tree}
use Rattle.hwdb_spec.specs.Tree.Children.{NoMore}
use Rattle.hwdb_spec.specs.Tree.Tree.{Node}
use Rattle.hwdb_spec_commands.specs.declared.devices.DeviceForm.TheVariants as form

-- ---- a small sysfs

-- what is beside a text in a table
abbrev pub beside : {X : Type 0} → List (List ℕ × X) → List ℕ → Option X
beside rows text = option_map (λ row. row.1) (find (λ row. same row.0 text) rows)

-- where paths lead
abbrev pub places : List (List ℕ × List ℕ)
places =
    (codes "/sys", codes "/sys") ∷ (codes "/sys/devices", codes "/sys/devices") ∷ (codes "/sys/bus", codes "/sys/bus") ∷ (codes "/sys/bus/pci/devices", codes "/sys/bus/pci/devices")
    ∷ (codes "/sys/bus/pci/devices/card", codes "/sys/devices/card") ∷ (codes "/sys/devices/card", codes "/sys/devices/card")
    ∷ (codes "/sys/devices/card/uevent", codes "/sys/devices/card/uevent") ∷ (codes "/sys/devices/card/subsystem", codes "/sys/bus/pci") ∷ []

-- what folders list
abbrev pub folders : List (List ℕ × List (List ℕ))
folders = (codes "/sys/bus", codes "pci" ∷ []) ∷ (codes "/sys/bus/pci/devices", codes "card" ∷ []) ∷ []

abbrev pub small : Sight
small = record {
  place = beside places;
  text = beside ((codes "/sys/devices/card/uevent", codes "MODALIAS=pci:v1\n") ∷ []);
  names = λ place. option_map_or (λ names. names) (beside folders place) [];
  node = λ place. None;
  lost = λ path. false;
  closed = λ place. false;
}

-- the card
abbrev pub card : Device
card = record {
  chain = record { path = codes "/devices/card"; name = codes "card"; subsystem = codes "pci"; driver = []; uevent = codes "MODALIAS=pci:v1\n"; attributes = [] } ∷ [];
  machine = [];
}

-- It is meant by its name and by its path, and no other name is. Below a root there is no sysfs.
abbrev pub MeantRows : Type 0
MeantRows =
    device_meant small [] [] (codes "card") ∷ device_meant small [] [] (codes "/sys/bus/pci/devices/card") ∷ device_meant small [] [] (codes "card2") ∷ device_meant small [] (codes "/r") (codes "card") ∷ []
    ≡ Some card ∷ Some card ∷ None ∷ None ∷ []

-- ---- devices that ids or a part of a name mean

-- two keyboards on USB, of which one is called by the other one's name, and a light that nothing is asked for
abbrev pub keyboards : Sight
keyboards = record {
  place = beside (
      (codes "/sys/bus", codes "/sys/bus") ∷ (codes "/sys/bus/usb/devices", codes "/sys/bus/usb/devices")
      ∷ (codes "/sys/bus/usb/devices/k1", codes "/sys/devices/k1") ∷ (codes "/sys/bus/usb/devices/k2", codes "/sys/devices/k2")
      ∷ (codes "/sys/devices/k1", codes "/sys/devices/k1") ∷ (codes "/sys/devices/k2", codes "/sys/devices/k2")
      ∷ (codes "/sys/devices/k1/uevent", codes "/sys/devices/k1/uevent") ∷ (codes "/sys/devices/k2/uevent", codes "/sys/devices/k2/uevent")
      ∷ (codes "/sys/devices/k1/subsystem", codes "/sys/bus/usb") ∷ (codes "/sys/devices/k2/subsystem", codes "/sys/bus/usb")
      ∷ (codes "/sys/devices/k1/idVendor", codes "/sys/devices/k1/idVendor") ∷ (codes "/sys/devices/k2/idVendor", codes "/sys/devices/k2/idVendor")
      ∷ (codes "/sys/devices/k1/idProduct", codes "/sys/devices/k1/idProduct") ∷ (codes "/sys/devices/k2/idProduct", codes "/sys/devices/k2/idProduct")
      ∷ (codes "/sys/devices/k1/product", codes "/sys/devices/k1/product") ∷ (codes "/sys/devices/k2/product", codes "/sys/devices/k2/product")
      ∷ (codes "/sys/bus/usb/devices/k3", codes "/sys/devices/k3") ∷ (codes "/sys/devices/k3", codes "/sys/devices/k3")
      ∷ (codes "/sys/devices/k3/uevent", codes "/sys/devices/k3/uevent") ∷ (codes "/sys/devices/k3/product", codes "/sys/devices/k3/product") ∷ []
      );
  text = beside (
      (codes "/sys/devices/k1/uevent", codes "MODALIAS=usb:v1\n") ∷ (codes "/sys/devices/k2/uevent", codes "MODALIAS=usb:v2\n")
      ∷ (codes "/sys/devices/k1/idVendor", codes "046d\n") ∷ (codes "/sys/devices/k2/idVendor", codes "046d\n")
      ∷ (codes "/sys/devices/k1/idProduct", codes "c31c\n") ∷ (codes "/sys/devices/k2/idProduct", codes "c31d\n")
      ∷ (codes "/sys/devices/k1/product", codes "USB Keyboard\n") ∷ (codes "/sys/devices/k2/product", codes "k1 keyboard\n")
      ∷ (codes "/sys/devices/k3/uevent", []) ∷ (codes "/sys/devices/k3/product", codes "light of a keyboard\n") ∷ []
      );
  names = λ place. option_map_or (λ names. names) (beside ((codes "/sys/bus", codes "usb" ∷ []) ∷ (codes "/sys/bus/usb/devices", codes "k1" ∷ codes "k2" ∷ codes "k3" ∷ []) ∷ []) place) [];
  node = λ place. None;
  lost = λ path. false;
  closed = λ place. false;
}

abbrev pub k1 : List ℕ
k1 = codes "/sys/devices/k1"

abbrev pub k2 : List ℕ
k2 = codes "/sys/devices/k2"

-- Ids in either case; another product, one without its vendor, and a vendor alone. Parts of names in either case. No text, and a path.
abbrev pub FittingRows : Type 0
FittingRows =
    map (fitting keyboards [] (codes "/sys"))
    (codes "046d:c31c" ∷ codes "046D:C31D" ∷ codes "046d:c31e" ∷ codes ":c31c" ∷ codes "046d:" ∷ codes "KEYBOARD" ∷ codes "usb k" ∷ codes "mouse" ∷ [] ∷ codes "/sys" ∷ [])
    ≡ (k1 ∷ []) ∷ (k2 ∷ []) ∷ [] ∷ [] ∷ [] ∷ (k1 ∷ k2 ∷ []) ∷ (k1 ∷ []) ∷ [] ∷ [] ∷ [] ∷ []

-- A whole name counts before a part of one. Of several there is no only one.
abbrev pub PlacesRows : Type 0
PlacesRows =
    (map (places_meant keyboards [] [] (codes "/sys")) (codes "k1" ∷ codes "k1 " ∷ codes "keyboard" ∷ []) ≡ (k1 ∷ []) ∷ (k2 ∷ []) ∷ (k1 ∷ k2 ∷ []) ∷ [])
    × (map (only {X = ℕ}) ([] ∷ (1 ∷ []) ∷ (1 ∷ 2 ∷ []) ∷ []) ≡ None ∷ Some 1 ∷ None ∷ [])

-- what follows one device, and what is said of several
abbrev pub PlaceRows : Type 0
PlaceRows =
    map {B = Plan} (λ given. place_of keyboards (codes "Why") (codes "product" ∷ []) [] given (codes "/sys") says) (codes "k1" ∷ codes "k1 " ∷ codes "Keyboard" ∷ [])
    ≡ says k1 ∷ says k2 ∷ says (codes "several devices: Keyboard\nk1  USB Keyboard\nk2  k1 keyboard\nname one of them") ∷ []

-- a device with two attributes
abbrev pub with_ids : (subsystem name vendor id product other : List ℕ) → List Ancestor
with_ids subsystem name vendor id product other =
    record {
      path = codes "/devices/d";
      name = name;
      subsystem = subsystem;
      driver = [];
      uevent = [];
      attributes = record { name = vendor; value = id } ∷ record { name = product; value = other } ∷ [];
    } ∷ []

-- Ids on PCI, which have `0x`; and of an input device, which its node tells. Of the parts of an input device the node of events is looked at.
abbrev pub IdRows : Type 0
IdRows =
    (map (λ given. has_ids given (with_ids (codes "pci") (codes "d") (codes "vendor") (codes "0x8086\n") (codes "device") (codes "0x156f\n")))
    (codes "8086:156F" ∷ codes "156f:8086" ∷ codes "0x8086:0x156f" ∷ []) ≡ true ∷ false ∷ false ∷ [])
    × (has_ids (codes "0001:0001") (with_ids (codes "input") (codes "event3") (codes "device/id/vendor") (codes "0001\n") (codes "device/id/product") (codes "0001\n")) ≡ true)
    × (map (λ name. is_other_input (with_ids (codes "input") name [] [] [] [])) (codes "event3" ∷ codes "input3" ∷ codes "mouse0" ∷ []) ≡ false ∷ true ∷ true ∷ [])
    × (is_other_input (with_ids (codes "usb") (codes "1-1") [] [] [] []) ≡ false)

-- the list of all devices that something is asked for
abbrev pub ListRows : Type 0
ListRows = device_list small [] (codes "/sys") ≡ codes "card\n"

-- Nothing is seen where nothing is: each path leads nowhere, and none is lost.
abbrev pub NothingRows : Type 0
NothingRows =
    ((sight_by (λ (path : List ℕ). nothing_there) (codes "/sys")).place (codes "/sys") ≡ None) × ((sight_by (λ (path : List ℕ). nothing_there) (codes "/sys")).lost (codes "/sys") ≡ false)
    × ((sight_by (λ (path : List ℕ). nothing_there) (codes "/sys")).text (codes "/sys") ≡ None) × ((sight_by (λ (path : List ℕ). nothing_there) (codes "/sys")).names (codes "/sys") ≡ [])
    × ((sight_by (λ (path : List ℕ). nothing_there) (codes "/sys")).node (codes "/sys") ≡ None)

-- attributes that rules ask for, in subfolders too, and one that none asks for
abbrev pub NameRows : Type 0
NameRows =
    map (λ name. list_any (λ n. same n name) asked_names) (codes "modalias" ∷ codes "idVendor" ∷ codes "capabilities/key" ∷ codes "label" ∷ codes "size" ∷ [])
    ≡ true ∷ true ∷ true ∷ true ∷ false ∷ []

-- ---- what is printed

-- a database that gives each card a K
abbrev pub some_tree : Tree
some_tree = Node (codes "pci:v*") (record { priority = 1; line = 2; key = codes " K"; value = codes "1"; path = codes "/etc/udev/hwdb.d/a.hwdb" } ∷ []) NoMore

-- the text file of it
abbrev pub some_file : List Source
some_file = record { name = codes "a.hwdb"; bytes = codes "pci:v*\n K=1\n" } ∷ []

abbrev pub some_text : List ℕ
some_text = codes "pci:v1\n  50-udev-default, of /devices/card\nK=1\n    /etc/udev/hwdb.d/a.hwdb:2  pci:v*\n\nproperties:\nK=1\n"

-- By a database in each form, and by the text files.
abbrev pub TextRows : Type 0
TextRows =
    device_text form.Lookups card some_tree ∷ device_text form.Strings card some_tree ∷ device_text form.Json card some_tree ∷ device_text form.Pattern card some_tree ∷ []
    ≡ some_text ∷ codes "pci:v1\n"
    ∷ codes "{\"rule\":\"50-udev-default\",\"device\":\"pci:v1\",\"path\":\"/devices/card\",\"properties\":{\"K\":\"1\"}}\n{\"path\":\"/devices/card\",\"result\":{\"K\":\"1\"}}\n"
    ∷ codes "pci:v1*\n# ID_AUTOSUSPEND=<0 or 1>\n# ID_AUTOSUSPEND_DELAY_MS=<milliseconds>\n\n" ∷ []

abbrev pub FileRows : Type 0
FileRows = files_device_text form.Lookups card some_file [] ≡ some_text
