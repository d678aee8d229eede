-- Worked rows of the strings of all devices, over the small sysfs of `NearRows`.
use Rattle.std.specs.Prelude.{◌≡◌, ◌∷◌, [], codes}
use Rattle.hwdb_spec.specs.Tree.{Tree}
use Rattle.hwdb_spec.specs.Tree.Children.{NoMore}
use Rattle.hwdb_spec.specs.Tree.Tree.{Node}
use Rattle.hwdb_spec_commands.specs.AllStrings.{all_strings_text, unread_lines, with_texts}
use Rattle.hwdb_device.specs.NearRows.{desk}

-- some texts, of which one comes twice, and one is kept already
abbrev pub OnceRows : Type 0
OnceRows = with_texts (codes "b" ∷ []) (codes "a" ∷ codes "c" ∷ codes "a" ∷ codes "b" ∷ []) ≡ codes "b" ∷ codes "a" ∷ codes "c" ∷ []

-- a database without assignments
abbrev pub empty : Tree
empty = Node [] [] NoMore

-- The strings of all devices: those of the bus that comes first, and the keyboard's once. The link that can't be read is told.
abbrev pub AllRows : Type 0
AllRows =
    (all_strings_text desk [] (codes "/sys") empty ≡ codes "usb:v1\nusb:v2\n")
    × (unread_lines desk (codes "/sys") ≡ codes "hwdb: cannot read /sys/bus/usb/devices/k4\n")
