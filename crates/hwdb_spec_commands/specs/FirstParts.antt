-- Strings whose first part may be left out: what sysfs and /proc/bus/input/devices show begins later than what most patterns are for. Our
-- choice, after the patterns of systemd's text files.
use Rattle.std.specs.Option.{option_map_or}
use Rattle.std.specs.Prelude.{◌∷◌, List, [], None, Option, Some, ℕ, codes, find}
use Rattle.hwdb_spec.specs.Folders.{same}

-- what such a string begins with, and what most patterns for it have before that
abbrev pub first_parts : List (List ℕ × List ℕ)
first_parts =
    (codes "input:", codes "evdev:")
    ∷ (codes "name:", codes "evdev:")
    ∷ (codes "atkbd:", codes "evdev:")
    ∷ (codes "modalias:", codes "sensor:")
    ∷ []

-- what may be missing before a text that begins so
abbrev pub part_before : (head : List ℕ) → Option (List ℕ)
part_before head = option_map_or (λ row. Some row.1) (find (λ row. same row.0 head) first_parts) None
