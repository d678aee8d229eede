-- Where sysfs has a device, and what is read of it and its parents. The folders are those of the kernel's sysfs-rules.rst; which
-- files are read is what sd-device of systemd 257 does. That a name is looked for in every class and bus is our choice.
use Rattle.std.specs.Prelude.{Bool, false, ℕ, List, [], ◌∷◌, ◌++◌, ◌+◌, ◌-◌, ◌*◌, ◌/◌, ◌%◌, ◌==◌, Option, None, Some, if◌then◌else◌, codes, drop, filter_map, flat_map, length, map, nat_eq, nat_le, nat_lt, not, option_map, reverse}
use Rattle.std.specs.Fmt.{decimal}
use Rattle.std.specs.List.{starts_with}
use Rattle.std.specs.Option.{option_map_or, unwrap_or}
use Rattle.strsim.specs.Edits.{levenshtein_row}
use Rattle.hwdb_spec.specs.Assignment.{in_order, text_cmp}
use Rattle.hwdb_spec.specs.Folders.{same}
use Rattle.hwdb_spec.specs.Lines.{begins_with, byte, has, is, pieces}
use Rattle.hwdb_spec.specs.Store.{path_in}
use Rattle.hwdb_spec_commands.specs.Properties.{lower}
use Rattle.hwdb_spec_commands.specs.Sysfs.{Ancestor, Attribute, Device}

-- a device's node: whether it is a block device, and its number as stat(2) has it
pub record Node : Type 0 where
  pub block : Bool
  pub number : ℕ

-- A file system as it is asked for devices. A place is a path without a link in it. Last come which paths it doesn't tell where
-- they lead, though that may be somewhere, and of which small files it doesn't tell the text.
pub record Sight : Type 0 where
  pub place : (path : List ℕ) → Option (List ℕ)
  pub text : (place : List ℕ) → Option (List ℕ)
  pub names : (place : List ℕ) → List (List ℕ)
  pub node : (place : List ℕ) → Option Node
  pub lost : (path : List ℕ) → Bool
  pub closed : (place : List ℕ) → Bool

-- ---- what is read of a device

-- what is found at the place that a path leads to
abbrev pub at_place : {X : Type 0} → Sight → (List ℕ → Option X) → (path : List ℕ) → Option X
at_place sight find path = option_map_or find (sight.place path) None

-- the text of the small file that a path leads to
abbrev pub text_of : Sight → (path : List ℕ) → Option (List ℕ)
text_of sight path = at_place sight sight.text path

-- the last of some texts; the one given before if there are none
unfoldable pub last_after : List ℕ → List (List ℕ) → List ℕ
last_after text [] = text
last_after text (next ∷ rest) = last_after next rest

-- the last name of a path
abbrev pub last_name : List ℕ → List ℕ
last_name path = last_after [] (pieces (is (byte "/")) path)

-- the last name of what a path leads to; empty if it leads nowhere
abbrev pub target_name : Sight → (path : List ℕ) → List ℕ
target_name sight path = option_map_or last_name (sight.place path) []

-- in a name of sysfs a `!` is a `/` of the kernel's name
abbrev pub unescaped : ℕ → ℕ
unescaped b = if b == byte "!" then byte "/" else b

-- the kernel's name of a device (sd-device)
abbrev pub kernel_name : List ℕ → List ℕ
kernel_name path = map unescaped (last_name path)

-- an attribute of a device, if it can be read
abbrev pub attribute_at : Sight → (folder name : List ℕ) → Option Attribute
attribute_at sight folder name = option_map (λ value. record { name = name; value = value }) (text_of sight (path_in folder name))

-- a device below sysfs, with its file `uevent` and those of the named attributes that can be read
abbrev pub ancestor_with : Sight → (names : List (List ℕ)) → (sys folder uevent : List ℕ) → Ancestor
ancestor_with sight names sys folder uevent = record {
  path = drop (length sys) folder;
  name = kernel_name folder;
  subsystem = target_name sight (path_in folder (codes "subsystem"));
  driver = target_name sight (path_in folder (codes "driver"));
  uevent = uevent;
  attributes = filter_map (attribute_at sight folder) names;
}

-- the file `uevent` of a folder: what has one is a device
abbrev pub uevent_of : Sight → (folder : List ℕ) → Option (List ℕ)
uevent_of sight folder = text_of sight (path_in folder (codes "uevent"))

-- the device of a folder, if it is one's
abbrev pub ancestor_at : Sight → (names : List (List ℕ)) → (sys folder : List ℕ) → Option Ancestor
ancestor_at sight names sys folder = option_map (ancestor_with sight names sys folder) (uevent_of sight folder)

-- the folders above a path, the nearest first; the path is read from its end
unfoldable pub above : (reversed : List ℕ) → List (List ℕ)
above [] = []
above (b ∷ rest) = if b == byte "/" then reverse rest ∷ above rest else above rest

-- whether a path is below sysfs's folder of devices
abbrev pub is_below_devices : (sys path : List ℕ) → Bool
is_below_devices sys path = if starts_with nat_eq path sys then starts_with nat_eq (drop (length sys) path) (codes "/devices/") else false

-- the device of a folder, if it is one's and below the folder of devices
abbrev pub ancestor_below : Sight → (names : List (List ℕ)) → (sys folder : List ℕ) → Option Ancestor
ancestor_below sight names sys folder = if is_below_devices sys folder then ancestor_at sight names sys folder else None

-- a device at a place: itself and its parents, and what the firmware says of the machine
abbrev pub device_at : Sight → (names : List (List ℕ)) → (sys place : List ℕ) → Device
device_at sight names sys place = record {
  chain = filter_map (ancestor_below sight names sys) (place ∷ above (reverse place));
  machine = unwrap_or (text_of sight (sys ++ codes "/class/dmi/id/modalias")) [];
}

-- ---- where sysfs is

-- where sysfs is below a root, if its folder of devices is there
abbrev pub sysfs_below : Sight → (root : List ℕ) → Option (List ℕ)
sysfs_below sight root =
    at_place sight (λ sys. option_map (λ devices. sys) (sight.place (sys ++ codes "/devices"))) (root ++ codes "/sys")

-- the path of the folder that isn't there, if sysfs isn't
abbrev pub missing_folder : Sight → (root : List ℕ) → Option (List ℕ)
missing_folder sight root =
    option_map_or (λ sys. option_map_or (λ devices. None) (sight.place (sys ++ codes "/devices")) (Some (sys ++ codes "/devices")))
    (sight.place (root ++ codes "/sys")) (Some (root ++ codes "/sys"))

-- ---- where a device is

-- a place, if a device is there
abbrev pub device_of_place : Sight → (sys place : List ℕ) → Option (List ℕ)
device_of_place sight sys place = if is_below_devices sys place then option_map (λ uevent. place) (uevent_of sight place) else None

-- the place that a path leads to, if a device is there
abbrev pub device_of_path : Sight → (sys path : List ℕ) → Option (List ℕ)
device_of_path sight sys path = at_place sight (device_of_place sight sys) path

-- the names in a folder that a path leads to, in order
abbrev pub names_in : Sight → (path : List ℕ) → List (List ℕ)
names_in sight path = in_order text_cmp (option_map_or sight.names (sight.place path) [])

-- the folder of each class, with links to its devices
abbrev pub class_folders : Sight → (sys : List ℕ) → List (List ℕ)
class_folders sight sys = map (path_in (sys ++ codes "/class")) (names_in sight (sys ++ codes "/class"))

-- the folder of each bus with links to its devices
abbrev pub bus_folders : Sight → (sys : List ℕ) → List (List ℕ)
bus_folders sight sys = map (λ bus. path_in (sys ++ codes "/bus") bus ++ codes "/devices") (names_in sight (sys ++ codes "/bus"))

-- the folders with a link to each device of a class, and at a bus
abbrev pub folders_with_links : Sight → (sys : List ℕ) → List (List ℕ)
folders_with_links sight sys = class_folders sight sys ++ bus_folders sight sys

-- the paths of what has a name in a class or at a bus
abbrev pub named : Sight → (sys name : List ℕ) → List (List ℕ)
named sight sys name = map (λ folder. path_in folder name) (folders_with_links sight sys)

-- the major number of a node (gnu_dev_major(3)), of the 12 bits that Linux uses
abbrev pub major : ℕ → ℕ
major number = number / 256 % 4096

-- the minor number of a node (gnu_dev_minor(3)), of 20 bits
abbrev pub minor : ℕ → ℕ
minor number = number % 256 + number / 1048576 % 4096 * 256

-- where sysfs has the link to the device of a node (sysfs(5))
abbrev pub node_path : (sys : List ℕ) → Node → List ℕ
node_path sys node =
    sys ++ ((if node.block then codes "/dev/block/" else codes "/dev/char/")
    ++ (decimal (major node.number) ++ byte ":" ∷ decimal (minor node.number)))

-- that of the node that a path leads to
abbrev pub paths_of_node : Sight → (sys path : List ℕ) → List (List ℕ)
paths_of_node sight sys path = option_map_or (λ node. node_path sys node ∷ []) (at_place sight sight.node path) []

-- a path that isn't absolute is one below /dev, as udev names nodes
abbrev pub absolute : List ℕ → List ℕ
absolute given = if begins_with (byte "/") given then given else codes "/dev/" ++ given

-- The paths at which a device is looked for, in this order. Below /sys it is the path itself. Another path is a node's, and then by its
-- last name. What has no slash is a name.
abbrev pub paths_for : Sight → (root sys given : List ℕ) → List (List ℕ)
paths_for sight root sys given =
    if not (has (byte "/") given) then named sight sys given
    else (if starts_with nat_eq given (codes "/sys/") then (root ++ given) ∷ []
    else paths_of_node sight sys (root ++ absolute given) ++ named sight sys (last_name given))

-- the first that some test gives
unfoldable pub first_given : {X Y : Type 0} → (X → Option Y) → List X → Option Y
first_given test [] = None
first_given test (x ∷ rest) = option_map_or Some (test x) (first_given test rest)

-- the device of a path or of a whole name
abbrev pub device_for : Sight → (root sys given : List ℕ) → Option (List ℕ)
device_for sight root sys given = first_given (device_of_path sight sys) (paths_for sight root sys given)

-- ---- what can't be read

-- a path that can't be told where it leads; of one that leads somewhere what can't be read there
abbrev pub lost_or : Sight → (List ℕ → Option (List ℕ)) → (path : List ℕ) → Option (List ℕ)
lost_or sight unread path = if sight.lost path then Some path else at_place sight unread path

-- the place of a small file, if its text can't be told
abbrev pub closed_at : Sight → (place : List ℕ) → Option (List ℕ)
closed_at sight place = if sight.closed place then Some place else None

-- what can't be read of the file `uevent` of a folder below that of devices
abbrev pub unread_of_place : Sight → (sys place : List ℕ) → Option (List ℕ)
unread_of_place sight sys place =
    if is_below_devices sys place then lost_or sight (closed_at sight) (path_in place (codes "uevent")) else None

-- What can't be read where a path leads, so that it can't be told whether a device is there.
abbrev pub unread_of_path : Sight → (sys path : List ℕ) → Option (List ℕ)
unread_of_path sight sys path = lost_or sight (unread_of_place sight sys) path

-- what can't be read first of the paths at which a device is looked for
abbrev pub unread_for : Sight → (root sys given : List ℕ) → Option (List ℕ)
unread_for sight root sys given = first_given (unread_of_path sight sys) (paths_for sight root sys given)

-- ---- what is near a name that no device has

-- how many bytes two texts begin with alike
unfoldable pub alike : List ℕ → List ℕ → ℕ
alike (a ∷ more) (b ∷ rest) = if a == b then 1 + alike more rest else 0
alike _ _ = 0

-- Whether few letters lead to a name: one in three may be wrong (Levenshtein). No file has a name of over 255 bytes.
abbrev pub is_misspelt : (wanted name : List ℕ) → Bool
is_misspelt wanted name =
    if nat_lt 255 (length wanted) then false else nat_le (levenshtein_row nat_eq wanted name (length name)) (length wanted / 3)

-- how many bytes are wanted, if a name begins with all of them; else 0
abbrev pub begun : (wanted name : List ℕ) → ℕ
begun wanted name = if starts_with nat_eq name wanted then alike name wanted else 0

-- How near a name is. One that few letters lead to counts before all others, fewer letters before more, and then a longer beginning
-- that is alike. Another one is near only if it begins with all that is wanted.
abbrev pub closeness : (wanted name : List ℕ) → ℕ
closeness wanted name =
    if is_misspelt wanted name then 256 * (length wanted - levenshtein_row nat_eq wanted name (length name)) + alike name wanted
    else begun wanted name

-- the same but for the case of letters
abbrev pub likeness : (wanted name : List ℕ) → ℕ
likeness wanted name = closeness (map lower wanted) (map lower name)

-- of a name and one before it, the one that is nearer; of two that are as near the one before
abbrev pub nearer : (wanted before name : List ℕ) → List ℕ
nearer wanted before name = if nat_lt (likeness wanted before) (likeness wanted name) then name else before

-- the nearest of some names, and of one before them
unfoldable pub nearest_of : (wanted before : List ℕ) → List (List ℕ) → List ℕ
nearest_of wanted before [] = before
nearest_of wanted before (name ∷ rest) = nearest_of wanted (nearer wanted before name) rest

-- the name in a class or at a bus that is nearest to the one that is wanted; empty if none is near
abbrev pub near_name : Sight → (sys wanted : List ℕ) → List ℕ
near_name sight sys wanted = nearest_of wanted [] (flat_map (names_in sight) (folders_with_links sight sys))

-- ---- all devices

-- the paths of what a folder lists, by name
abbrev pub links_in : Sight → (folder : List ℕ) → List (List ℕ)
links_in sight folder = map (path_in folder) (names_in sight folder)

-- the same, but nothing of the folder of input devices
abbrev pub other_links : Sight → (input folder : List ℕ) → List (List ℕ)
other_links sight input folder = if same folder input then [] else links_in sight folder

-- the paths of all that classes and buses list: those of input first
abbrev pub all_links : Sight → (sys : List ℕ) → List (List ℕ)
all_links sight sys =
    let input = sys ++ codes "/class/input" in
    links_in sight input ++ flat_map (other_links sight input) (folders_with_links sight sys)
