-- Worked rows of the shortest texts of forms, worked out by hand from the forms: each is the shortest text that the form has and that
-- the pattern matches. Of the bytes that fit the first usual one is taken, which mostly is a 0.
use Rattle.std.specs.Prelude.{◌∷◌, ◌++◌, ◌≡◌, List, None, Option, Some, [], codes, false, map, ℕ}
use Rattle.hwdb_spec.specs.Forms.{Form, Piece, counted, fixed, repeated}
use Rattle.hwdb_spec.specs.Patterns.{bracket, literal, one, star, tokens}
use Rattle.hwdb_spec.specs.declared.ByteSet.TheVariants.{UpperHex}
use Rattle.hwdb_spec_commands.specs.FormTable.{evdev_keyboard, evdev_machine, free, mouse, oui, usb}
use Rattle.hwdb_spec_commands.specs.FormTexts.{filled, text_among, text_in}

-- a form of some ways after `k:`
abbrev pub of_ways : List (List Piece) → Form
of_ways ways = record { prefix = codes "k:"; fields = ways ∷ [] }

-- the texts of a form for some patterns
abbrev pub fitted : Form → List (List ℕ) → List (Option (List ℕ))
fitted form patterns = map (λ pattern. text_in (tokens pattern) form) patterns

-- digits are counted: a star takes none that a token after it takes, and no pattern is met by too few or too many
abbrev pub CountedRows : Type 0
CountedRows =
    fitted (of_ways ((counted UpperHex 2 ∷ []) ∷ [])) (codes "k:*" ∷ codes "k:??" ∷ codes "k:*A" ∷ codes "k:[B-F]*" ∷ codes "*k:1*2*" ∷ codes "k:1" ∷ codes "k:123" ∷ codes "k:1g" ∷ [])
    ≡ Some (codes "k:00") ∷ Some (codes "k:00") ∷ Some (codes "k:0A") ∷ Some (codes "k:B0") ∷ Some (codes "k:12") ∷ None ∷ None ∷ None ∷ []

-- any number of digits: none but those that the pattern asks for
abbrev pub RepeatedRows : Type 0
RepeatedRows =
    fitted (of_ways ((repeated UpperHex ∷ fixed (codes "z") ∷ []) ∷ [])) (codes "k:*z" ∷ codes "k:*" ∷ codes "k:?*[B-F]z" ∷ codes "*z*" ∷ codes "k:gz" ∷ codes "k:*zz" ∷ [])
    ≡ Some (codes "k:z") ∷ Some (codes "k:z") ∷ Some (codes "k:0Bz") ∷ Some (codes "k:z") ∷ None ∷ None ∷ []

-- of two ways the shorter one, or the one that is met; of two as short the first
abbrev pub WayRows : Type 0
WayRows =
    (fitted (of_ways ((fixed (codes "pqr") ∷ []) ∷ (fixed (codes "st") ∷ []) ∷ [])) (codes "k:*" ∷ codes "k:p*" ∷ codes "k:*t" ∷ codes "k:*u" ∷ [])
    ≡ Some (codes "k:st") ∷ Some (codes "k:pqr") ∷ Some (codes "k:st") ∷ None ∷ [])
    × (fitted (of_ways ((fixed (codes "uv") ∷ []) ∷ (fixed (codes "st") ∷ []) ∷ [])) (codes "k:*" ∷ []) ≡ Some (codes "k:uv") ∷ [])

-- the same of forms
abbrev pub AmongRows : Type 0
AmongRows =
    map (λ forms. text_among forms (tokens (codes "k:*")))
    ((of_ways ((fixed (codes "pqr") ∷ []) ∷ []) ∷ of_ways ((fixed (codes "st") ∷ []) ∷ []) ∷ of_ways ((fixed (codes "uv") ∷ []) ∷ []) ∷ [])
    ∷ (of_ways ((fixed (codes "uv") ∷ []) ∷ []) ∷ of_ways ((fixed (codes "st") ∷ []) ∷ []) ∷ []) ∷ (oui ∷ []) ∷ [] ∷ [])
    ≡ Some (codes "k:st") ∷ Some (codes "k:uv") ∷ None ∷ None ∷ []

-- a byte that isn't usual is taken if no usual one fits
abbrev pub ByteRows : Type 0
ByteRows =
    text_in (literal 107 ∷ literal 58 ∷ bracket (record { size = 5; inverted = false; spans = (2, 4) ∷ [] }) ∷ []) (free (codes "k:"))
    ≡ Some (codes "k:" ++ 2 ∷ [])

-- each star takes a byte or more
abbrev pub FilledRows : Type 0
FilledRows =
    (filled (tokens (codes "a*?b")) ≡ literal 97 ∷ one ∷ star ∷ one ∷ literal 98 ∷ [])
    × (map (λ pattern. text_in (filled (tokens pattern)) (of_ways ((repeated UpperHex ∷ fixed (codes "z") ∷ []) ∷ []))) (codes "k:*z" ∷ codes "k:*" ∷ codes "k:0z*" ∷ [])
    ≡ Some (codes "k:0z") ∷ Some (codes "k:z") ∷ None ∷ [])

-- devices on USB, of which a name is shorter than the interfaces' numbers
abbrev pub UsbTextRows : Type 0
UsbTextRows =
    fitted usb (codes "usb:v046DpC52B*" ∷ codes "usb:v046DpC52Bd*" ∷ codes "usb:v046dp*" ∷ [])
    ≡ Some (codes "usb:v046DpC52B:") ∷ Some (codes "usb:v046DpC52Bd0000dc00dsc00dp00ic00isc00ip00in00") ∷ None ∷ []

-- a mouse, and a keyboard of a machine: the shortest field before its vendor is `bd`, with nothing in it
abbrev pub NamedTextRows : Type 0
NamedTextRows =
    (fitted mouse (codes "mouse:*:name:*Pad*:" ∷ []) ≡ Some (codes "mouse:ps2::name:Pad:") ∷ [])
    × (fitted evdev_machine (codes "evdev:atkbd:dmi:*:svnHP*:*" ∷ []) ≡ Some (codes "evdev:atkbd:dmi:bd:svnHP:") ∷ [])
    × (fitted evdev_keyboard (codes "evdev:atkbd:*" ∷ codes "evdev:atkbd:dmi:*" ∷ []) ≡ Some (codes "evdev:atkbd:") ∷ None ∷ [])
