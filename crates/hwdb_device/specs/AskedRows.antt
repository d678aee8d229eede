-- Worked rows of what `device` prints of all devices, and of what it says if there is none, over the small sysfs of hwdb_sysfs.
use Rattle.std.specs.Prelude.{Bool, List, ℕ, [], ◌∷◌, ◌++◌, ◌≡◌, codes, false, map, true}
use Rattle.hwdb_spec_commands.specs.DeviceAsked.{device_form, link_row, missing_text, no_sysfs_text, unread_text}
use Rattle.hwdb_spec_commands.specs.declared.devices.DeviceForm.{DeviceForm}
use Rattle.hwdb_spec_commands.specs.declared.devices.DeviceForm.TheVariants as form
use Rattle.hwdb_device.specs.Rows.{l}
use Rattle.hwdb_sysfs.specs.Rows.{small}

-- lines of the list: a keyboard; a link that isn't told where it leads; a folder whose file isn't told; and what isn't there
abbrev pub LinkRows : Type 0
LinkRows =
    map (link_row small [] (codes "/sys")) (codes "/sys/class/input/event3" ∷ codes "/sys/class/input/event9" ∷ codes "/sys/class/input/mouse2" ∷ codes "/sys/class/input/mice" ∷ [])
    ≡ l (codes "event3") ∷ l (codes "event9  cannot read /sys/class/input/event9") ∷ l (codes "mouse2  cannot read /sys/devices/mouse2/uevent") ∷ [] ∷ []

-- what is said of a name, and of a path that leads nowhere, of one that leads somewhere, and if nothing is near
abbrev pub MissingRows : Type 0
MissingRows =
    map (λ given. missing_text small [] [] (codes "/sys") given (codes "Why")) (codes "event33" ∷ codes "/dev/event33" ∷ codes "/sys/class" ∷ codes "x" ∷ [])
    ≡ codes "no device: event33: there is event3" ∷ codes "no device: /dev/event33: Why: there is event3"
    ∷ codes "no device: /sys/class: 'hwdb device' lists all" ∷ codes "no device: x: 'hwdb device' lists all" ∷ []

-- what is said of a path that can't be read, and if there is no sysfs
abbrev pub ErrorRows : Type 0
ErrorRows =
    (unread_text (codes "/sys/x") (codes "Permission denied") ≡ codes "cannot read /sys/x: Permission denied")
    × (no_sysfs_text (codes "/r/sys") (codes "Why") ≡ codes "no sysfs: /r/sys: Why: mount it, or name another root")

-- which of several options counts
abbrev pub FormRows : Type 0
FormRows =
    (device_form false false false ∷ device_form true false false ∷ device_form true true false ∷ device_form true true true ∷ [])
    ≡ form.Lookups ∷ form.Strings ∷ form.Json ∷ form.Pattern ∷ []
