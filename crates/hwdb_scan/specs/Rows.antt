-- Worked rows: what is told of recorded events. The bytes are by hand from linux/input.h and linux/input-event-codes.h.
use Rattle.std.specs.Prelude.{◌≡◌, ◌++◌, ◌∷◌, List, [], None, Some, codes, drop, map, pos, take, ℕ}
use Rattle.hwdb_spec.specs.declared.causes.Cause.TheVariants.{Memory, System}
use Rattle.hwdb_spec_commands.specs.ScanAsked.{scanned_name, scanned_path, scanned_text, unscanned_text}
use Rattle.hwdb_spec_commands.specs.Scans.{key_name, scan_text}
use Rattle.hwdb_scan.specs.Views.{after_bytes, bytes_text, start}

-- the seconds and microseconds of a record
abbrev pub time : List ℕ
time = 42 ∷ 13 ∷ 95 ∷ 102 ∷ 0 ∷ 0 ∷ 0 ∷ 0 ∷ 64 ∷ 66 ∷ 15 ∷ 0 ∷ 0 ∷ 0 ∷ 0 ∷ 0 ∷ []

-- EV_MSC, MSC_SCAN: 0x70039, that of Caps Lock on USB
abbrev pub scan_39 : List ℕ
scan_39 = time ++ 4 ∷ 0 ∷ 4 ∷ 0 ∷ 57 ∷ 0 ∷ 7 ∷ 0 ∷ []

-- 0xc0192, that of a key for a calculator on USB
abbrev pub scan_192 : List ℕ
scan_192 = time ++ 4 ∷ 0 ∷ 4 ∷ 0 ∷ 146 ∷ 1 ∷ 12 ∷ 0 ∷ []

-- 0xff000003, of a vendor's own page: the highest bit is set
abbrev pub scan_vendor : List ℕ
scan_vendor = time ++ 4 ∷ 0 ∷ 4 ∷ 0 ∷ 3 ∷ 0 ∷ 0 ∷ 255 ∷ []

-- 0
abbrev pub scan_0 : List ℕ
scan_0 = time ++ 4 ∷ 0 ∷ 4 ∷ 0 ∷ 0 ∷ 0 ∷ 0 ∷ 0 ∷ []

-- EV_KEY, KEY_CAPSLOCK, pressed, repeated and let go; KEY_A and KEY_CALC pressed
abbrev pub caps_pressed : List ℕ
caps_pressed = time ++ 1 ∷ 0 ∷ 58 ∷ 0 ∷ 1 ∷ 0 ∷ 0 ∷ 0 ∷ []

abbrev pub caps_repeated : List ℕ
caps_repeated = time ++ 1 ∷ 0 ∷ 58 ∷ 0 ∷ 2 ∷ 0 ∷ 0 ∷ 0 ∷ []

abbrev pub caps_let_go : List ℕ
caps_let_go = time ++ 1 ∷ 0 ∷ 58 ∷ 0 ∷ 0 ∷ 0 ∷ 0 ∷ 0 ∷ []

abbrev pub a_pressed : List ℕ
a_pressed = time ++ 1 ∷ 0 ∷ 30 ∷ 0 ∷ 1 ∷ 0 ∷ 0 ∷ 0 ∷ []

abbrev pub calc_pressed : List ℕ
calc_pressed = time ++ 1 ∷ 0 ∷ 140 ∷ 0 ∷ 1 ∷ 0 ∷ 0 ∷ 0 ∷ []

-- EV_KEY, BTN_LEFT, pressed
abbrev pub left_pressed : List ℕ
left_pressed = time ++ 1 ∷ 0 ∷ 16 ∷ 1 ∷ 1 ∷ 0 ∷ 0 ∷ 0 ∷ []

-- EV_REL, REL_X: a mouse moves by 1; and EV_LED, LED_CAPSL
abbrev pub moved : List ℕ
moved = time ++ 2 ∷ 0 ∷ 0 ∷ 0 ∷ 1 ∷ 0 ∷ 0 ∷ 0 ∷ []

abbrev pub lit : List ℕ
lit = time ++ 17 ∷ 0 ∷ 1 ∷ 0 ∷ 1 ∷ 0 ∷ 0 ∷ 0 ∷ []

-- EV_SYN, SYN_REPORT; and SYN_DROPPED
abbrev pub ended : List ℕ
ended = time ++ 0 ∷ 0 ∷ 0 ∷ 0 ∷ 0 ∷ 0 ∷ 0 ∷ 0 ∷ []

abbrev pub dropped : List ℕ
dropped = time ++ 0 ∷ 0 ∷ 3 ∷ 0 ∷ 0 ∷ 0 ∷ 0 ∷ 0 ∷ []

-- Caps Lock is pressed, held and let go
abbrev pub caps : List ℕ
caps = scan_39 ++ (caps_pressed ++ (ended ++ (caps_repeated ++ (ended ++ (scan_39 ++ (caps_let_go ++ (lit ++ ended)))))))

-- A line for each key that is pressed: of Caps Lock, of two keys in one report, of a scan code of a vendor's own, and of 0.
abbrev pub KeyRows : Type 0
KeyRows =
    map (scan_text None)
    (caps ∷ (scan_39 ++ (a_pressed ++ (scan_192 ++ (calc_pressed ++ ended)))) ∷ (scan_vendor ++ (a_pressed ++ ended)) ∷ (scan_0 ++ a_pressed) ∷ [] ∷ [])
    ≡ codes "70039 capslock KEYBOARD_KEY_70039=capslock\n"
    ∷ codes "70039 a KEYBOARD_KEY_70039=a\nc0192 calc KEYBOARD_KEY_c0192=calc\n"
    ∷ codes "ff000003 a KEYBOARD_KEY_ff000003=a\n"
    ∷ codes "0 a KEYBOARD_KEY_0=a\n" ∷ [] ∷ []

-- Keys of which no scan code is known: none was told, it was told in the report before, or the key before took it. What is neither a
-- key nor the end of a report changes nothing, and of two scan codes the last counts.
abbrev pub OtherRows : Type 0
OtherRows =
    map (scan_text None)
    ((moved ++ (left_pressed ++ ended)) ∷ (scan_39 ++ (ended ++ caps_pressed)) ∷ (scan_39 ++ (caps_let_go ++ (a_pressed ++ ended)))
    ∷ (scan_39 ++ (moved ++ (lit ++ (dropped ++ caps_pressed)))) ∷ (scan_192 ++ (scan_39 ++ caps_pressed)) ∷ [])
    ≡ codes "- btn_left -\n" ∷ codes "- capslock -\n" ∷ codes "- a -\n"
    ∷ codes "70039 capslock KEYBOARD_KEY_70039=capslock\n" ∷ codes "70039 capslock KEYBOARD_KEY_70039=capslock\n" ∷ []

-- A record that is cut tells nothing until its rest comes: cut in the scan code, in the key's value, and before its last byte.
abbrev pub CutRows : Type 0
CutRows =
    (map (λ size. scan_text None (take size caps)) (10 ∷ 24 ∷ 47 ∷ []) ≡ [] ∷ [] ∷ [] ∷ [])
    × (map (λ size. bytes_text (after_bytes (start None) (take size caps)) (drop size caps)) (10 ∷ 46 ∷ 47 ∷ 48 ∷ [])
    ≡ codes "70039 capslock KEYBOARD_KEY_70039=capslock\n" ∷ codes "70039 capslock KEYBOARD_KEY_70039=capslock\n"
    ∷ codes "70039 capslock KEYBOARD_KEY_70039=capslock\n" ∷ [] ∷ [])

-- as many as are asked for: none, one of two, and more than there are
abbrev pub CountRows : Type 0
CountRows =
    map (λ count. scan_text (Some count) (scan_39 ++ (caps_pressed ++ (ended ++ (scan_39 ++ caps_pressed))))) (0 ∷ 1 ∷ 3 ∷ [])
    ≡ [] ∷ codes "70039 capslock KEYBOARD_KEY_70039=capslock\n"
    ∷ codes "70039 capslock KEYBOARD_KEY_70039=capslock\n70039 capslock KEYBOARD_KEY_70039=capslock\n" ∷ []

-- names of keys: the first that has the code, and the code if none has
abbrev pub NameRows : Type 0
NameRows =
    map (key_name (codes "a 30\ncoffee 152\nscreenlock 152\nz 3\n")) (30 ∷ 152 ∷ 3 ∷ 15 ∷ []) ≡ codes "a" ∷ codes "coffee" ∷ codes "z" ∷ codes "15" ∷ []

-- what is read: a node by its name or its path, a file, and standard input; also below a root
abbrev pub PathRows : Type 0
PathRows =
    (map (scanned_path []) (codes "event4" ∷ codes "/dev/input/event4" ∷ codes "./keys" ∷ codes "-" ∷ [])
    ≡ Some (codes "/dev/input/event4") ∷ Some (codes "/dev/input/event4") ∷ Some (codes "./keys") ∷ None ∷ [])
    × (map (scanned_path (codes "/r")) (codes "event4" ∷ codes "/dev/input/event4" ∷ codes "./keys" ∷ codes "-" ∷ [])
    ≡ Some (codes "/r/dev/input/event4") ∷ Some (codes "/r/dev/input/event4") ∷ Some (codes "/r/./keys") ∷ None ∷ [])
    × (map scanned_name (Some (codes "/f") ∷ None ∷ []) ≡ codes "/f" ∷ codes "standard input" ∷ [])

-- what is said, with what to do: of EACCES, EPERM, ENOENT and EISDIR. Of ENODEV, of want of memory and without a cause there is nothing to do.
abbrev pub SaidRows : Type 0
SaidRows =
    map (λ cause. unscanned_text (codes "/dev/input/event4") cause (codes "w")) (Some (System (pos 13)) ∷ Some (System (pos 1)) ∷ Some (System (pos 2)) ∷ Some (System (pos 21)) ∷ Some (System (pos 19)) ∷ Some Memory ∷ None ∷ [])
    ≡ codes "cannot read /dev/input/event4: w; run it as root: sudo hwdb scan /dev/input/event4"
    ∷ codes "cannot read /dev/input/event4: w; run it as root: sudo hwdb scan /dev/input/event4"
    ∷ codes "cannot read /dev/input/event4: w; 'hwdb device' lists the devices"
    ∷ codes "cannot read /dev/input/event4: w; give a device in it, as event4: 'hwdb device' lists them" ∷ codes "cannot read /dev/input/event4: w" ∷ codes "cannot read /dev/input/event4: w"
    ∷ codes "cannot read /dev/input/event4" ∷ []

-- what is printed of all bytes that are there, if they are no more than may be read
abbrev pub WholeRows : Type 0
WholeRows = map (λ count. scanned_text count (caps ++ caps)) (Some 1 ∷ Some 0 ∷ []) ≡ codes "70039 capslock KEYBOARD_KEY_70039=capslock\n" ∷ [] ∷ []
