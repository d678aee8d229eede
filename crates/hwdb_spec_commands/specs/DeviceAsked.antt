-- The device that `device` is asked for, what it prints of it or of all devices, and what it says if there is none. Our choice.
use Rattle.std.specs.Prelude.{◌++◌, Bool, false, true, List, [], ◌∷◌, None, Option, codes, flat_map, if◌then◌else◌, is_some, not, option_map, ℕ}
use Rattle.std.specs.Option.{option_map_or}
use Rattle.hwdb_spec_commands.specs.DeviceFound.{near_given, only, places_meant}
use Rattle.hwdb_spec_commands.specs.DeviceTexts.{device_row, line_of}
use Rattle.hwdb_spec_commands.specs.DeviceTree.{Sight, absolute, all_links, device_at, device_of_path, kernel_name, sysfs_below, unread_of_path}
use Rattle.hwdb_spec.specs.Lines.{byte, has}
use Rattle.hwdb_spec_commands.specs.Sysfs.{Device}
use Rattle.hwdb_spec_commands.specs.declared.devices.DeviceForm.{DeviceForm}
use Rattle.hwdb_spec_commands.specs.declared.devices.DeviceForm.TheVariants as form
use Rattle.hwdb_spec.specs.Visible.{shown_name}

-- ---- what is printed

-- which form is printed: of several options `--pattern` counts first, and then `--json`
abbrev pub device_form : (strings json pattern : Bool) → DeviceForm
device_form strings json true = form.Pattern
device_form strings true false = form.Json
device_form true false false = form.Strings
device_form false false false = form.Lookups

-- the device that is meant below a root, with those of its attributes that have these names; none if there is none, or several
abbrev pub device_meant : Sight → (names : List (List ℕ)) → (root given : List ℕ) → Option Device
device_meant sight names root given =
    option_map_or (λ sys. option_map (device_at sight names sys) (only (places_meant sight names root sys given))) (sysfs_below sight root) None

-- the line of what can't be read: the name of the device that may be there, and the path
abbrev pub unread_row : (link path : List ℕ) → List ℕ
unread_row link path = line_of (kernel_name link ++ (codes "  cannot read " ++ path))

-- the line of what a link of sysfs leads to: of a device that something is asked for, or of what can't be read
abbrev pub link_row : Sight → (names : List (List ℕ)) → (sys link : List ℕ) → List ℕ
link_row sight names sys link =
    option_map_or (λ place. device_row (device_at sight names sys place)) (device_of_path sight sys link)
    (option_map_or (unread_row link) (unread_of_path sight sys link) [])

-- a line for each device that something is asked for, and for each that can't be read
abbrev pub device_list : Sight → (names : List (List ℕ)) → (sys : List ℕ) → List ℕ
device_list sight names sys = flat_map (link_row sight names sys) (all_links sight sys)

-- ---- what is said if there is no device

-- what is said if there is no sysfs: a path that leads nowhere, why, and what to do
abbrev pub no_sysfs_text : (path words : List ℕ) → List ℕ
no_sysfs_text path words = codes "no sysfs: " ++ (shown_name path ++ (codes ": " ++ (words ++ codes ": mount it, or name another root")))

-- what is said if it can't be told whether a device is there: the path that can't be read, and why
abbrev pub unread_text : (path words : List ℕ) → List ℕ
unread_text path words = codes "cannot read " ++ (shown_name path ++ (codes ": " ++ words))

-- what to do if there is no such device: to take what is near, or to look at the list
abbrev pub near_hint : (near : List ℕ) → List ℕ
near_hint [] = codes "'hwdb device' lists all"
near_hint (b ∷ rest) = codes "there is " ++ shown_name (b ∷ rest)

-- whether what is given is a path, and leads nowhere
abbrev pub leads_nowhere : Sight → (root given : List ℕ) → Bool
leads_nowhere sight root given = if has (byte "/") given then not (is_some (sight.place (root ++ absolute given))) else false

-- why a path leads nowhere
abbrev pub cause_part : (nowhere : Bool) (words : List ℕ) → List ℕ
cause_part true words = words ++ codes ": "
cause_part false words = []

-- what is said if there is no such device: what was given, why it leads nowhere if it does, and what to do
abbrev pub no_device_text : (nowhere : Bool) (given words near : List ℕ) → List ℕ
no_device_text nowhere given words near = codes "no device: " ++ (shown_name given ++ (codes ": " ++ (cause_part nowhere words ++ near_hint near)))

-- the same, by what sysfs shows
abbrev pub missing_text : Sight → (names : List (List ℕ)) → (root sys given words : List ℕ) → List ℕ
missing_text sight names root sys given words = no_device_text (leads_nowhere sight root given) given words (near_given sight names sys given)
