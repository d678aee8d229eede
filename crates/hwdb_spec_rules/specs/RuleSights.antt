-- What sysfs tells of a device and its parents before any rule is tried, after sd-device of systemd 257.
use Rattle.std.specs.Prelude.{List, [], ◌∷◌, ◌++◌, Bool, true, false, if◌then◌else◌, ℕ, codes, flat_map, map, Option, Some, None}
use Rattle.std.specs.List.{after_first, before_first, list_any}
use Rattle.std.specs.Str.{bytes_eq}
use Rattle.hwdb_spec.specs.Lines.{begins_with, byte, has, is, pieces}
use Rattle.hwdb_spec_commands.specs.Sysfs.{Ancestor, attribute}
use Rattle.hwdb_rulerun.specs.Sights.{Entry, Known, Unknown, Missing, Text, Seen, Sight}
use Rattle.hwdb_ruleevents.specs.Changes.{Change, Open, Put}
use Rattle.hwdb_ruleevents.specs.Effects.{known_value, some_text}

-- links of a device, of which udev takes the last name of what they lead to (`sd_device_get_sysattr_value`)
abbrev pub links : List (List ℕ)
links = codes "driver" ∷ codes "module" ∷ codes "subsystem" ∷ []

-- whether a name leads out of the device's folder
abbrev pub climbs : (name : List ℕ) → Bool
climbs name = list_any (bytes_eq (codes "..")) (pieces (is (byte "/")) name)

-- an attribute of such a name isn't followed
abbrev pub is_followed : (name : List ℕ) → Bool
is_followed name = if climbs name then false else (if list_any (bytes_eq name) links then false else true)

-- a value that has byte 0 isn't followed: udev reads up to it
abbrev pub read_value : Option (List ℕ) → Known
read_value None = Missing
read_value (Some value) = if has 0 value then Unknown else Text value

-- what is known of an attribute that was looked for
abbrev pub known_attribute : Ancestor → (name : List ℕ) → Known
known_attribute a name = if is_followed name then read_value (attribute name a) else Unknown

-- a name that was looked for, and what is known of it
abbrev pub entry : Ancestor → (name : List ℕ) → Entry
entry a name = record { name = name; value = known_attribute a name }

-- a device or a parent, by the names that were looked for
abbrev pub seen : (names : List (List ℕ)) → Ancestor → Seen
seen names a =
    record {
      name = a.name;
      subsystem = known_value (some_text a.subsystem);
      driver = known_value (some_text a.driver);
      attributes = map (entry a) names;
    }

-- what is known at an action; properties are told by changes
abbrev pub sight_of : (action path : List ℕ) → (own : Seen) (parents : List Seen) → Sight
sight_of action path own parents =
    record { action = action; path = path; own = own; parents = parents; properties = []; closed = false }

-- what is known of a device and its parents at an action
abbrev pub sight : (names : List (List ℕ)) (action : List ℕ) → (own : Ancestor) (parents : List Ancestor) → Sight
sight names action own parents = sight_of action own.path (seen names own) (map (seen names) parents)

-- what the firmware says of the machine
abbrev pub others : (machine : List ℕ) → List Entry
others machine = record { name = codes "[dmi/id]modalias"; value = Text machine } ∷ []

-- a property that the kernel tells; udev puts /dev before a node's name that has no path
abbrev pub told_property : (name value : List ℕ) → Known
told_property name value =
    if bytes_eq name (codes "DEVNAME") then (if begins_with (byte "/") value then Text value else Unknown) else known_value (some_text value)

-- the property of a line of the file `uevent`
abbrev pub line_property : (line : List ℕ) → List Change
line_property line =
    if has (byte "=") line
    then (let name = before_first (is (byte "=")) line in Put name (told_property name (after_first (is (byte "=")) line)) ∷ [])
    else []

-- what udev and the kernel set besides, of which nothing is known
abbrev pub own_records : List Change
own_records =
    Open (codes "SEQNUM") ∷ Open (codes "SYNTH_") ∷ Open (codes "USEC_INITIALIZED") ∷ Open (codes "UDEV_") ∷ Open (codes "TAGS")
    ∷ Open (codes "CURRENT_TAGS") ∷ Open (codes "DEVLINKS") ∷ []

-- the properties that a device begins with
abbrev pub first_properties : (action : List ℕ) → Ancestor → List Change
first_properties action a =
    own_records ++ (flat_map line_property (pieces (is (byte "\n")) a.uevent)
    ++ (Put (codes "ACTION") (Text action) ∷ Put (codes "DEVPATH") (Text a.path) ∷ Put (codes "SUBSYSTEM") (known_value (some_text a.subsystem)) ∷ []))
