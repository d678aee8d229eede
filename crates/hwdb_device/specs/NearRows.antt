-- Worked rows over a small sysfs: what is near to a text that means no device.
use Rattle.std.specs.Option.{option_map_or}
use Rattle.std.specs.Prelude.{◌≡◌, ◌∷◌, List, [], None, codes, map, ℕ}
use Rattle.hwdb_spec.specs.Folders.{same}
use Rattle.hwdb_spec_commands.specs.DeviceFound.{near_given}
use Rattle.hwdb_spec_commands.specs.DeviceTree.{Sight}
use Rattle.hwdb_sysfs.specs.Rows.{beside}

-- A keyboard and a mouse on USB, a light that nothing is asked for, and a link that isn't told where it leads. A bus of its own has the
-- keyboard once more.
abbrev pub desk : Sight
desk = record {
  place = beside (
      (codes "/sys/bus", codes "/sys/bus") ∷ (codes "/sys/bus/usb/devices", codes "/sys/bus/usb/devices") ∷ (codes "/sys/bus/hid/devices", codes "/sys/bus/hid/devices")
      ∷ (codes "/sys/bus/usb/devices/k1", codes "/sys/devices/k1") ∷ (codes "/sys/bus/usb/devices/k2", codes "/sys/devices/k2")
      ∷ (codes "/sys/bus/usb/devices/k3", codes "/sys/devices/k3") ∷ (codes "/sys/bus/hid/devices/h1", codes "/sys/devices/k1")
      ∷ (codes "/sys/devices/k1/uevent", codes "/sys/devices/k1/uevent") ∷ (codes "/sys/devices/k2/uevent", codes "/sys/devices/k2/uevent")
      ∷ (codes "/sys/devices/k3/uevent", codes "/sys/devices/k3/uevent")
      ∷ (codes "/sys/devices/k1/subsystem", codes "/sys/bus/usb") ∷ (codes "/sys/devices/k2/subsystem", codes "/sys/bus/usb")
      ∷ (codes "/sys/devices/k1/product", codes "/sys/devices/k1/product") ∷ (codes "/sys/devices/k2/product", codes "/sys/devices/k2/product")
      ∷ (codes "/sys/devices/k3/product", codes "/sys/devices/k3/product") ∷ []
      );
  text = beside (
      (codes "/sys/devices/k1/uevent", codes "MODALIAS=usb:v1\n") ∷ (codes "/sys/devices/k2/uevent", codes "MODALIAS=usb:v2\n") ∷ (codes "/sys/devices/k3/uevent", [])
      ∷ (codes "/sys/devices/k1/product", codes "USB Keyboard\n") ∷ (codes "/sys/devices/k2/product", codes "Optical Mouse\n")
      ∷ (codes "/sys/devices/k3/product", codes "Light\n") ∷ []
      );
  names = λ place. option_map_or (λ names. names)
      (beside ((codes "/sys/bus", codes "usb" ∷ codes "hid" ∷ []) ∷ (codes "/sys/bus/usb/devices", codes "k1" ∷ codes "k2" ∷ codes "k3" ∷ codes "k4" ∷ [])
      ∷ (codes "/sys/bus/hid/devices", codes "h1" ∷ []) ∷ []) place) [];
  node = λ place. None;
  lost = λ path. same path (codes "/sys/bus/usb/devices/k4");
  closed = λ place. same place [];
}

-- A word and a whole title, in either case; a name before a word that begins alike too. Nothing is near to the light, to a path, and to a
-- text that only begins as a name.
abbrev pub NearGivenRows : Type 0
NearGivenRows =
    map (near_given desk [] (codes "/sys"))
    (codes "keybord" ∷ codes "MOSE" ∷ codes "optcal mouse" ∷ codes "keyboa" ∷ codes "k" ∷ codes "lght" ∷ codes "/keyboard" ∷ codes "kmsg" ∷ [] ∷ [])
    ≡ codes "Keyboard" ∷ codes "Mouse" ∷ codes "Optical Mouse" ∷ codes "Keyboard" ∷ codes "k1" ∷ [] ∷ [] ∷ [] ∷ [] ∷ []
