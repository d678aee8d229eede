-- What `device --all --strings` prints: the strings that udev asks for the devices of the list, each once; and what it says of what can't
-- be read. Our choice.
use Rattle.std.specs.Prelude.{List, [], ◌∷◌, ◌++◌, codes, flat_map, if◌then◌else◌, map, ℕ}
use Rattle.std.specs.List.{list_any}
use Rattle.std.specs.Option.{option_map_or}
use Rattle.hwdb_spec.specs.Folders.{same}
use Rattle.hwdb_spec.specs.Tree.{Tree}
use Rattle.hwdb_spec.specs.Visible.{shown_name}
use Rattle.hwdb_spec_commands.specs.DeviceTexts.{asked_for, line_of, text_of}
use Rattle.hwdb_spec_commands.specs.DeviceTree.{Sight, all_links, device_at, device_of_path, unread_of_path}
use Rattle.hwdb_spec_commands.specs.Refusals.{refusal_line}
use Rattle.hwdb_spec_commands.specs.Sysfs.{Device}

-- ---- each once

-- some texts, and one more if it isn't among them
abbrev pub with_text : (kept : List (List ℕ)) (text : List ℕ) → List (List ℕ)
with_text kept text = if list_any (same text) kept then kept else kept ++ text ∷ []

-- some texts, and those of others that aren't among them, each once and in the order in which they are first seen
unfoldable pub with_texts : (kept : List (List ℕ)) → List (List ℕ) → List (List ℕ)
with_texts kept [] = kept
with_texts kept (text ∷ more) = with_texts (with_text kept text) more

-- ---- the strings of all devices

-- the strings that udev asks for a device, by what a database gives them
abbrev pub strings_of : Device → Tree → List (List ℕ)
strings_of d t = map text_of (asked_for d t)

-- those of the device that a link of sysfs leads to
abbrev pub strings_at : Sight → (names : List (List ℕ)) → (sys : List ℕ) → Tree → (link : List ℕ) → List (List ℕ)
strings_at sight names sys t link = option_map_or (λ place. strings_of (device_at sight names sys place) t) (device_of_path sight sys link) []

-- the strings of all devices, each once, in the order of the list and of a device's strings
abbrev pub all_strings : Sight → (names : List (List ℕ)) → (sys : List ℕ) → Tree → List (List ℕ)
all_strings sight names sys t = with_texts [] (flat_map (strings_at sight names sys t) (all_links sight sys))

-- what is printed: a line for each
abbrev pub all_strings_text : Sight → (names : List (List ℕ)) → (sys : List ℕ) → Tree → List ℕ
all_strings_text sight names sys t = flat_map line_of (all_strings sight names sys t)

-- ---- what can't be read

-- the line of a path that can't be read, so that it can't be told whether a device is there
abbrev pub unread_line : (path : List ℕ) → List ℕ
unread_line path = refusal_line (codes "cannot read " ++ shown_name path)

-- that of a link of sysfs: nothing if a device is there, or none
abbrev pub unread_at : Sight → (sys link : List ℕ) → List ℕ
unread_at sight sys link = option_map_or (λ place. []) (device_of_path sight sys link) (option_map_or unread_line (unread_of_path sight sys link) [])

-- what is said on standard error: a line for each
abbrev pub unread_lines : Sight → (sys : List ℕ) → List ℕ
unread_lines sight sys = flat_map (unread_at sight sys) (all_links sight sys)
