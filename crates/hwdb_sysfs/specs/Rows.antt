-- Worked rows over a small sysfs: a keyboard at its port, and a disk's node. It isn't told where the link of `event9` leads, and what is
-- in the file of `mouse2`. What the definitions give when they are computed.
use Rattle.std.specs.Prelude.{◌≡◌, ℕ, List, [], ◌∷◌, Option, Some, None, codes, find, map, option_map, replicate, false}
use Rattle.std.specs.Option.{option_map_or}
use Rattle.hwdb_spec_commands.specs.DeviceTree.{Node, Sight, all_links, device_at, device_for, kernel_name, last_name, likeness, major, minor, missing_folder, near_name, sysfs_below, unread_for}
use Rattle.hwdb_spec.specs.Folders.{same}

-- what is beside a text in a table
abbrev pub beside : {X : Type 0} → List (List ℕ × X) → List ℕ → Option X
beside rows text = option_map (λ row. row.1) (find (λ row. same row.0 text) rows)

-- where paths lead
abbrev pub places : List (List ℕ × List ℕ)
places =
    (codes "/sys/class", codes "/sys/class") ∷ (codes "/sys/bus", codes "/sys/bus")
    ∷ (codes "/sys/class/input", codes "/sys/class/input") ∷ (codes "/sys/bus/serio/devices", codes "/sys/bus/serio/devices")
    ∷ (codes "/sys/class/input/event3", codes "/sys/devices/port/event3") ∷ (codes "/sys/bus/serio/devices/port", codes "/sys/devices/port")
    ∷ (codes "/sys/devices/port/event3", codes "/sys/devices/port/event3") ∷ (codes "/sys/devices/port", codes "/sys/devices/port")
    ∷ (codes "/sys/devices/port/event3/uevent", codes "/sys/devices/port/event3/uevent") ∷ (codes "/sys/devices/port/uevent", codes "/sys/devices/port/uevent")
    ∷ (codes "/sys/devices/port/event3/subsystem", codes "/sys/class/input") ∷ (codes "/sys/devices/port/driver", codes "/sys/bus/serio/drivers/atkbd")
    ∷ (codes "/sys/devices/port/name", codes "/sys/devices/port/name") ∷ (codes "/sys/class/dmi/id/modalias", codes "/sys/devices/dmi/modalias")
    ∷ (codes "/dev/input/event3", codes "/dev/input/event3") ∷ (codes "/dev/disk", codes "/dev/disk") ∷ (codes "/sys/dev/char/13:67", codes "/sys/devices/port/event3")
    ∷ (codes "/sys/class/input/mouse2", codes "/sys/devices/mouse2") ∷ (codes "/sys/devices/mouse2/uevent", codes "/sys/devices/mouse2/uevent")
    ∷ (codes "/sys", codes "/sys") ∷ (codes "/sys/devices", codes "/sys/devices") ∷ (codes "/r/sys", codes "/r/sys") ∷ []

-- the texts of small files
abbrev pub texts : List (List ℕ × List ℕ)
texts =
    (codes "/sys/devices/port/event3/uevent", codes "MAJOR=13\n") ∷ (codes "/sys/devices/port/uevent", []) ∷ (codes "/sys/devices/port/name", codes "Port\n")
    ∷ (codes "/sys/devices/dmi/modalias", codes "dmi:\n") ∷ []

-- what folders list
abbrev pub folders : List (List ℕ × List (List ℕ))
folders =
    (codes "/sys/class", codes "net" ∷ codes "input" ∷ []) ∷ (codes "/sys/bus", codes "serio" ∷ [])
    ∷ (codes "/sys/class/input", codes "event3" ∷ codes "mouse2" ∷ codes "mice" ∷ codes "event9" ∷ []) ∷ (codes "/sys/bus/serio/devices", codes "port" ∷ []) ∷ []

-- the keyboard's node, 13:67
abbrev pub keyboard : Node
keyboard = record { block = false; number = 3395 }

-- the small sysfs
abbrev pub small : Sight
small = record {
  place = beside places;
  text = beside texts;
  names = λ place. option_map_or (λ names. names) (beside folders place) [];
  node = beside ((codes "/dev/input/event3", keyboard) ∷ []);
  lost = λ path. same path (codes "/sys/class/input/event9");
  closed = λ place. same place (codes "/sys/devices/mouse2/uevent");
}

-- the device and its port, with the attribute that is there, the links that are there, and what the firmware says
abbrev pub ReadRows : Type 0
ReadRows =
    device_at small (codes "name" ∷ []) (codes "/sys") (codes "/sys/devices/port/event3")
    ≡ record {
      chain =
          record { path = codes "/devices/port/event3"; name = codes "event3"; subsystem = codes "input"; driver = []; uevent = codes "MAJOR=13\n"; attributes = [] }
          ∷ record { path = codes "/devices/port"; name = codes "port"; subsystem = []; driver = codes "atkbd"; uevent = []; attributes = record { name = codes "name"; value = codes "Port\n" } ∷ [] }
          ∷ [];
      machine = codes "dmi:\n";
    }

-- Where a device is looked for: by its name, in a class and at a bus, and by a path below /sys. By its node, below /dev too, and a
-- node that sysfs doesn't know by its last name. Nothing has a name that no class has, and a folder of sysfs that is none of a
-- device's is none
abbrev pub FoundRows : Type 0
FoundRows =
    map (device_for small [] (codes "/sys"))
    (codes "event3" ∷ codes "port" ∷ codes "/sys/class/input/event3" ∷ codes "/dev/input/event3" ∷ codes "input/event3" ∷ codes "/dev/other/port"
    ∷ codes "event33" ∷ codes "/sys/class/input" ∷ codes "mice" ∷ codes "/dev/disk" ∷ [])
    ≡ Some (codes "/sys/devices/port/event3") ∷ Some (codes "/sys/devices/port") ∷ Some (codes "/sys/devices/port/event3") ∷ Some (codes "/sys/devices/port/event3")
    ∷ Some (codes "/sys/devices/port/event3") ∷ Some (codes "/sys/devices/port") ∷ None ∷ None ∷ None ∷ None ∷ []

-- What can't be read: where a link leads, or the file of the folder that it leads to. A device that can be read, and what isn't
-- there.
abbrev pub UnreadRows : Type 0
UnreadRows =
    map (unread_for small [] (codes "/sys")) (codes "event9" ∷ codes "/dev/input/mouse2" ∷ codes "event3" ∷ codes "event33" ∷ [])
    ≡ Some (codes "/sys/class/input/event9") ∷ Some (codes "/sys/devices/mouse2/uevent") ∷ None ∷ None ∷ []

-- all that is listed: that of input, and then the rest
abbrev pub ListedRows : Type 0
ListedRows =
    all_links small (codes "/sys")
    ≡ codes "/sys/class/input/event3" ∷ codes "/sys/class/input/event9" ∷ codes "/sys/class/input/mice" ∷ codes "/sys/class/input/mouse2"
    ∷ codes "/sys/bus/serio/devices/port" ∷ []

-- names: the last one, also before a slash at the end; a `!` in it
abbrev pub NameRows : Type 0
NameRows =
    (map last_name (codes "/a/b" ∷ codes "/a/b/" ∷ codes "a" ∷ codes "/" ∷ []) ≡ codes "b" ∷ codes "b" ∷ codes "a" ∷ [] ∷ [])
    × (kernel_name (codes "/sys/block/cciss!c0d0") ≡ codes "cciss/c0d0")

-- numbers of nodes: 13:67, 8:1, and 259:300, which is past eight bits
abbrev pub NodeRows : Type 0
NodeRows = map {B = ℕ × ℕ} (λ number. (major number, minor number)) (3395 ∷ 2049 ∷ 1114924 ∷ []) ≡ (13, 67) ∷ (8, 1) ∷ (259, 300) ∷ []

-- where sysfs is; below one root its folder of devices isn't there, and below another one nothing
abbrev pub SysfsRows : Type 0
SysfsRows =
    (map (sysfs_below small) ([] ∷ codes "/r" ∷ codes "/x" ∷ []) ≡ Some (codes "/sys") ∷ None ∷ None ∷ [])
    × (map (missing_folder small) ([] ∷ codes "/r" ∷ codes "/x" ∷ []) ≡ None ∷ Some (codes "/r/sys/devices") ∷ Some (codes "/x/sys") ∷ [])

-- What is near: few letters lead from `evnt3`, `evetn3`, `EVENT3` and `prt` to a name. Of two that are as near it is the first in order.
-- A name begins with `eve`. Nothing is near `x`, nor `mote`, which only begins as `mice` does. Letters aren't counted of a text that is
-- too long for a name.
abbrev pub NearRows : Type 0
NearRows =
    (map (near_name small (codes "/sys"))
    (codes "event33" ∷ codes "evnt3" ∷ codes "evetn3" ∷ codes "EVENT3" ∷ codes "prt" ∷ codes "eve" ∷ codes "x" ∷ codes "mote" ∷ [] ∷ [])
    ≡ codes "event3" ∷ codes "event3" ∷ codes "event3" ∷ codes "event3" ∷ codes "port" ∷ codes "event3" ∷ [] ∷ [] ∷ [] ∷ [])
    × (map (likeness (codes "event4")) (codes "event4" ∷ codes "Evnt4" ∷ codes "evt4" ∷ codes "event" ∷ codes "event40" ∷ codes "evt" ∷ codes "ev" ∷ [])
    ≡ 1542 ∷ 1282 ∷ 1026 ∷ 1285 ∷ 1286 ∷ 0 ∷ 0 ∷ [])
    × (likeness (codes "EV") (codes "event4") ≡ 2)
    × (likeness (replicate 256 65) (replicate 256 65) ≡ 256)
