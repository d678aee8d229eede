-- Which devices ids or a part of a name mean, what is said if there are several, and what is near if there is none. Our choice. The attributes are those that Linux's
-- drivers for USB, PCI and input devices have, and ids are written as lsusb(8) and lspci(8) print them.
use Rattle.std.specs.Prelude.{Bool, true, false, ℕ, List, [], ◌∷◌, ◌++◌, Option, None, Some, codes, drop, filter_map, flat_map, if◌then◌else◌, is_some, nat_eq, not, take}
use Rattle.std.specs.List.{starts_with}
use Rattle.std.specs.Option.{option_map_or, unwrap_or}
use Rattle.hwdb_spec.specs.Lines.{begins_with, byte, is, is_none, pieces}
use Rattle.hwdb_spec.specs.Visible.{shown_name}
use Rattle.hwdb_spec_commands.specs.DeviceTexts.{called, device_row, text_in, told_nothing}
use Rattle.hwdb_spec_commands.specs.DeviceTree.{Sight, all_links, device_at, device_for, device_of_path, last_name, near_name, nearest_of, unread_for}
use Rattle.hwdb_spec_commands.specs.KeysAsked.{has_part}
use Rattle.hwdb_spec_commands.specs.Lookups.{lookups}
use Rattle.hwdb_spec_commands.specs.Properties.{same_letters}
use Rattle.hwdb_spec_commands.specs.Sysfs.{Ancestor, Device, is_in, is_named}
use Rattle.hwdb_spec_commands.specs.declared.finders.TheConstants.{FINDERS}

-- ---- what tells of a device

-- the names of the attributes by which a device is found
abbrev pub finders : List (List ℕ)
finders = pieces (is 10) FINDERS.now

-- a number as ids are written: PCI devices have `0x` before it
abbrev pub bare_number : List ℕ → List ℕ
bare_number text = if starts_with nat_eq text (codes "0x") then drop 2 text else text

-- whether a text is a vendor and a product, with a colon between them; the case of letters is the same
abbrev pub is_pair : (given vendor product : List ℕ) → Bool
is_pair given vendor product = same_letters given (bare_number vendor ++ byte ":" ∷ bare_number product)

-- whether a text is what a device itself tells by two attributes: its vendor and its product
abbrev pub has_pair : (given vendor product : List ℕ) → List Ancestor → Bool
has_pair given vendor product own =
    option_map_or (λ v. option_map_or (is_pair given v) (text_in product own) false) (text_in vendor own) false

-- whether a text is the ids of a device: of one on USB, of one on PCI, or of the input device that a node is of
abbrev pub has_ids : (given : List ℕ) → (own : List Ancestor) → Bool
has_ids given own =
    if has_pair given (codes "idVendor") (codes "idProduct") own then true
    else (if has_pair given (codes "vendor") (codes "device") own then true
    else has_pair given (codes "device/id/vendor") (codes "device/id/product") own)

-- whether a text is a part of how a device is called; the case of letters is the same
abbrev pub is_called : (given : List ℕ) → List Ancestor → Bool
is_called given chain = has_part given (unwrap_or (called chain) [])

-- whether a text tells of a device: by its ids, or by a part of how it is called
abbrev pub tells_of : (given : List ℕ) → List Ancestor → Bool
tells_of given chain = if has_ids given (take 1 chain) then true else is_called given chain

-- ---- which devices are looked at

-- Whether a device is a part of an input device, and not the node of its events. What udev asks for such a part it asks for the node.
abbrev pub is_other_input : List Ancestor → Bool
is_other_input [] = false
is_other_input (own ∷ parents) = if is_in (codes "input") own then not (is_named (codes "event") own) else false

-- whether udev asks something for a device, as it does for each of the list
abbrev pub is_asked : Device → Bool
is_asked d = not (is_none (lookups told_nothing d))

-- whether a device may be meant: something is asked for it, and of an input device it is the node of events
abbrev pub is_offered : Device → Bool
is_offered d = if is_other_input d.chain then false else is_asked d

-- whether the device at a place is one that a text means
abbrev pub fits : Sight → (names : List (List ℕ)) → (sys given place : List ℕ) → Bool
fits sight names sys given place =
    if tells_of given (device_at sight finders sys place).chain then is_offered (device_at sight names sys place) else false

-- a place, if the device there is one that a text means
abbrev pub place_if : Sight → (names : List (List ℕ)) → (sys given place : List ℕ) → Option (List ℕ)
place_if sight names sys given place = if fits sight names sys given place then Some place else None

-- the place that a link leads to, if the device there is one that a text means
abbrev pub fitting_at : Sight → (names : List (List ℕ)) → (sys given link : List ℕ) → Option (List ℕ)
fitting_at sight names sys given link = option_map_or (place_if sight names sys given) (device_of_path sight sys link) None

-- whether a text may be ids or a part of a name: there is one, and it isn't an absolute path
abbrev pub is_word : List ℕ → Bool
is_word given = if is_none given then false else not (begins_with (byte "/") given)

-- the devices that ids or a part of a name mean, in the order of the list
abbrev pub fitting : Sight → (names : List (List ℕ)) → (sys given : List ℕ) → List (List ℕ)
fitting sight names sys given = if is_word given then filter_map (fitting_at sight names sys given) (all_links sight sys) else []

-- ---- what is meant

-- The devices that are meant. A path or a whole name counts first, even if it can't be told whether a device is there.
abbrev pub places_meant : Sight → (names : List (List ℕ)) → (root sys given : List ℕ) → List (List ℕ)
places_meant sight names root sys given =
    option_map_or (λ place. place ∷ []) (device_for sight root sys given)
    (if is_some (unread_for sight root sys given) then [] else fitting sight names sys given)

-- the only one; none if there are several
abbrev pub only : {X : Type 0} → List X → Option X
only [] = None
only (x ∷ []) = Some x
only (x ∷ y ∷ more) = None

-- ---- what is said of several

-- the line of the device at a place, as the list has it
abbrev pub place_row : Sight → (names : List (List ℕ)) → (sys place : List ℕ) → List ℕ
place_row sight names sys place = device_row (device_at sight names sys place)

-- what is said of several devices that fit: a line for each, and what to do
abbrev pub several_text : Sight → (names : List (List ℕ)) → (sys given : List ℕ) → (places : List (List ℕ)) → List ℕ
several_text sight names sys given places =
    codes "several devices: " ++ (shown_name given ++ (byte "\n" ∷ flat_map (place_row sight names sys) places ++ codes "name one of them"))

-- ---- what is near if none is meant

-- the texts that a title is compared as: it as a whole, and each of its words
abbrev pub title_parts : (title : List ℕ) → List (List ℕ)
title_parts title = title ∷ pieces (is (byte " ")) title

-- those of how the device at a place is called, if it may be meant
abbrev pub parts_of_place : Sight → (names : List (List ℕ)) → (sys place : List ℕ) → List (List ℕ)
parts_of_place sight names sys place =
    if is_offered (device_at sight names sys place) then option_map_or title_parts (called (device_at sight finders sys place).chain) [] else []

-- those of the device that a link leads to
abbrev pub parts_at : Sight → (names : List (List ℕ)) → (sys link : List ℕ) → List (List ℕ)
parts_at sight names sys link = option_map_or (parts_of_place sight names sys) (device_of_path sight sys link) []

-- all texts of which a part of a name may be meant; of an absolute path none
abbrev pub parts_for : Sight → (names : List (List ℕ)) → (sys given : List ℕ) → List (List ℕ)
parts_for sight names sys given = if is_word given then flat_map (parts_at sight names sys) (all_links sight sys) else []

-- What is nearest to what was given: a name in a class or at a bus, how a device is called, or a word of that; empty if nothing is near.
-- Of two that are as near it is the first.
abbrev pub near_given : Sight → (names : List (List ℕ)) → (sys given : List ℕ) → List ℕ
near_given sight names sys given = nearest_of given (near_name sight sys (last_name given)) (parts_for sight names sys given)
