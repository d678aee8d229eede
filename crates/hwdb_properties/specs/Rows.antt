-- Rows at which the definitions of `Properties` and `Surroundings` are computed. Which values fit is from the heads of systemd's hwdb
-- files, hwdb(7) and parse_hwdb.py.
use Rattle.std.specs.Prelude.{true, false, [], ◌∷◌, ◌≡◌, None, Some, codes}
use Rattle.hwdb_spec.specs.Assignment.{Assignment}
use Rattle.hwdb_spec_commands.specs.Properties.{bare_hint, bare_key, code_hint, has_lost_words, is_near, is_near_name, row_misuse, row_value_hint}
use Rattle.hwdb_spec_commands.specs.Surroundings.{has_logged_code, is_alone, is_odd_name, is_read_by_row, may_be_read, raised, unknown_hint}
use Rattle.hwdb_spec_commands.specs.declared.vocabulary.Misuse.TheVariants.{ScanCode, SingularMatrix, TwoDefaults, UnfitValue, ZeroRow}
use Prim.Native.String.{String}

-- nothing is said of a property with this row, name and value
abbrev pub IsFine : (row name value : String) → Type 0
IsFine row name value = row_misuse (codes row) (codes name) (codes value) ≡ None

-- the value isn't one of the property
abbrev pub IsUnfit : (row name value : String) → Type 0
IsUnfit row name value = row_misuse (codes row) (codes name) (codes value) ≡ Some UnfitValue

-- the resolutions of a mouse: numbers, with a rate after `@` or not; one of them may be the default
pub record ResolutionRows : Type 0 where
  pub one : IsFine "MOUSE_DPI resolutions mouse x" "MOUSE_DPI" "800"
  pub rate : IsFine "MOUSE_DPI resolutions mouse x" "MOUSE_DPI" "400@125 *800@125"
  pub two : row_misuse (codes "MOUSE_DPI resolutions mouse x") (codes "MOUSE_DPI") (codes "*400@125 *800@125") ≡ Some TwoDefaults
  pub word : IsUnfit "MOUSE_DPI resolutions mouse x" "MOUSE_DPI" "800dpi"
  pub star : IsUnfit "MOUSE_DPI resolutions mouse x" "MOUSE_DPI" "800*"
  pub nothing : IsUnfit "MOUSE_DPI resolutions mouse x" "MOUSE_DPI" "400@125 *0@125"
  pub no_rate : IsUnfit "MOUSE_DPI resolutions mouse x" "MOUSE_DPI" "800@00"
  pub zeros : IsFine "MOUSE_DPI resolutions mouse x" "MOUSE_DPI" "0800@125"

-- A matrix has three rows of three numbers, none of which is zero, and another determinant than 0. Numbers but 1, 0 and -1 aren't
-- multiplied.
pub record MatrixRows : Type 0 where
  pub plain : IsFine "ACCEL_MOUNT_MATRIX matrix sensor x" "ACCEL_MOUNT_MATRIX" "0, -1, 0; 1, 0, 0; 0, 0, 1"
  pub parts : IsFine "ACCEL_MOUNT_MATRIX matrix sensor x" "ACCEL_MOUNT_MATRIX" "0.5,.5,0;1.,0,0;0,0,+1"
  pub zero : row_misuse (codes "ACCEL_MOUNT_MATRIX matrix sensor x") (codes "ACCEL_MOUNT_MATRIX") (codes "1,0,0;0,0.0,-0;0,0,1") ≡ Some ZeroRow
  pub flat : row_misuse (codes "ACCEL_MOUNT_MATRIX matrix sensor x") (codes "ACCEL_MOUNT_MATRIX") (codes "0, 1, 0; -1, 0, 0; -1, 0, 0") ≡ Some SingularMatrix
  pub sum : row_misuse (codes "ACCEL_MOUNT_MATRIX matrix sensor x") (codes "ACCEL_MOUNT_MATRIX") (codes "1,0,1.0;0,+1,-1;1,1,0") ≡ Some SingularMatrix
  pub turned : IsFine "ACCEL_MOUNT_MATRIX matrix sensor x" "ACCEL_MOUNT_MATRIX" "-1, 0, 0; 0, 0, 1; 0, 1, 0"
  pub halves : IsFine "ACCEL_MOUNT_MATRIX matrix sensor x" "ACCEL_MOUNT_MATRIX" "0.5,0.5,0;0.5,0.5,0;0,0,1"
  pub eight : IsUnfit "ACCEL_MOUNT_MATRIX matrix sensor x" "ACCEL_MOUNT_MATRIX" "1,0,0;0,1,0;0,0"
  pub letter : IsUnfit "ACCEL_MOUNT_MATRIX matrix sensor x" "ACCEL_MOUNT_MATRIX" "x,0,0;0,1,0;0,0,1"

-- the limits of an axis, below a code in lower case
pub record AxisRows : Type 0 where
  pub limits : IsFine "EVDEV_ABS_ axis evdev x" "EVDEV_ABS_00" "1260:5650:39"
  pub some : IsFine "EVDEV_ABS_ axis evdev x" "EVDEV_ABS_3a" "::-5:0x1f"
  pub code : row_misuse (codes "EVDEV_ABS_ axis evdev x") (codes "EVDEV_ABS_3A") (codes "1:2") ≡ Some ScanCode
  pub none : row_misuse (codes "EVDEV_ABS_ axis evdev x") (codes "EVDEV_ABS_") (codes "1:2") ≡ Some ScanCode
  pub capital : code_hint (codes "EVDEV_ABS_") (codes "EVDEV_ABS_3A") ≡ codes "write EVDEV_ABS_3a"
  pub marked : code_hint (codes "KEYBOARD_KEY_") (codes "KEYBOARD_KEY_0x70039") ≡ codes "write KEYBOARD_KEY_70039"
  pub last : IsFine "EVDEV_ABS_ axis evdev x" "EVDEV_ABS_3f" "1:2"
  pub zeros : IsFine "EVDEV_ABS_ axis evdev x" "EVDEV_ABS_0035" "1:2"
  pub digit : IsFine "EVDEV_ABS_ axis evdev x" "EVDEV_ABS_9" "1:2"
  pub above : row_misuse (codes "EVDEV_ABS_ axis evdev x") (codes "EVDEV_ABS_40") (codes "1:2") ≡ Some ScanCode
  pub long : row_misuse (codes "EVDEV_ABS_ axis evdev x") (codes "EVDEV_ABS_100") (codes "1:2") ≡ Some ScanCode
  pub scan : IsFine "KEYBOARD_KEY_ key evdev x" "KEYBOARD_KEY_90005" "1"
  pub evtest : code_hint (codes "EVDEV_ABS_") (codes "EVDEV_ABS_53") ≡ codes "evtest shows the code in decimal: write EVDEV_ABS_35"
  pub no_axis : code_hint (codes "EVDEV_ABS_") (codes "EVDEV_ABS_64") ≡ codes "write the code of an axis in hexadecimal, from 00 to 3f"
  pub no_digit : code_hint (codes "EVDEV_ABS_") (codes "EVDEV_ABS_x1")
      ≡ codes "write the code in the digits 0 to 9 and a to f alone, without 0x"
  pub six : IsUnfit "EVDEV_ABS_ axis evdev x" "EVDEV_ABS_00" "1:2:3:4:5:6"
  pub dash : IsUnfit "EVDEV_ABS_ axis evdev x" "EVDEV_ABS_00" "1-2"

-- numbers and words
pub record NumberRows : Type 0 where
  pub most : IsFine "POINTINGSTICK_SENSITIVITY byte evdev x" "POINTINGSTICK_SENSITIVITY" "255"
  pub more : IsUnfit "POINTINGSTICK_SENSITIVITY byte evdev x" "POINTINGSTICK_SENSITIVITY" "256"
  pub below : IsFine "MOUSE_WHEEL_CLICK_ANGLE turn mouse x" "MOUSE_WHEEL_CLICK_ANGLE" "-15"
  pub half : IsUnfit "MOUSE_WHEEL_CLICK_ANGLE turn mouse x" "MOUSE_WHEEL_CLICK_ANGLE" "7.5"
  pub whole : IsFine "MOUSE_WHEEL_CLICK_ANGLE turn mouse x" "MOUSE_WHEEL_CLICK_ANGLE" "-360"
  pub beyond : IsUnfit "MOUSE_WHEEL_CLICK_ANGLE turn mouse x" "MOUSE_WHEEL_CLICK_ANGLE" "361"
  pub still : IsUnfit "MOUSE_WHEEL_CLICK_ANGLE turn mouse x" "MOUSE_WHEEL_CLICK_ANGLE" "0"
  pub integer : IsFine "ID_AUTOSUSPEND_DELAY_MS integer usb x" "ID_AUTOSUSPEND_DELAY_MS" "-1"
  pub count : IsUnfit "PROXIMITY_NEAR_LEVEL count sensor x" "PROXIMITY_NEAR_LEVEL" "-1"
  pub decimal : IsFine "POINTINGSTICK_CONST_ACCEL decimal evdev x" "POINTINGSTICK_CONST_ACCEL" "1.25"
  pub charge : IsFine "CHARGE_LIMIT limits battery x" "CHARGE_LIMIT" "_,80"
  pub lone : IsUnfit "CHARGE_LIMIT limits battery x" "CHARGE_LIMIT" "80"
  pub full : IsFine "CHARGE_LIMIT limits battery x" "CHARGE_LIMIT" "0,100"
  pub over : IsUnfit "CHARGE_LIMIT limits battery x" "CHARGE_LIMIT" "80,101"
  pub word : IsFine "ID_INTEGRATION internal|external * x" "ID_INTEGRATION" "external"
  pub other : IsUnfit "ID_INTEGRATION internal|external * x" "ID_INTEGRATION" "extern"
  pub away : IsFine "ID_INTEGRATION internal|external * x" "ID_INTEGRATION" ""

-- The names of X's layouts have letters, digits and a few signs (parse_hwdb.py).
pub record SettingRows : Type 0 where
  pub plain : IsFine "XKB_FIXED_LAYOUT setting evdev x" "XKB_FIXED_LAYOUT" "us"
  pub signs : IsFine "XKB_FIXED_LAYOUT setting evdev x" "XKB_FIXED_LAYOUT" "a+b-c/d@e._9Z"
  pub quotes : IsUnfit "XKB_FIXED_LAYOUT setting evdev x" "XKB_FIXED_LAYOUT" "\"us\""
  pub several : IsUnfit "XKB_FIXED_LAYOUT setting evdev x" "XKB_FIXED_LAYOUT" "us,de"
  pub away : IsFine "XKB_FIXED_LAYOUT setting evdev x" "XKB_FIXED_LAYOUT" ""

-- How a value was likely meant: inside its quotes, in other letters, or by what people call it. Else its form is told.
pub record MeantRows : Type 0 where
  pub quotes : row_value_hint (codes "MOUSE_DPI resolutions mouse x") (codes "MOUSE_DPI") (codes "\"400@125 *800@125\"") ≡ codes "write MOUSE_DPI=400@125 *800@125"
  pub single : row_value_hint (codes "ID_PDA 0|1 * x") (codes "ID_PDA") (codes "'1'") ≡ codes "write ID_PDA=1"
  pub letters : row_value_hint (codes "ID_INTEGRATION internal|external * x") (codes "ID_INTEGRATION") (codes "Internal") ≡ codes "write ID_INTEGRATION=internal"
  pub word : row_value_hint (codes "ID_PDA 0|1 * x") (codes "ID_PDA") (codes "Yes") ≡ codes "write ID_PDA=1"
  pub both : row_value_hint (codes "ID_PDA 0|1 * x") (codes "ID_PDA") (codes "\"off\"") ≡ codes "write ID_PDA=0"
  pub other : row_value_hint (codes "ID_INTEGRATION internal|external * x") (codes "ID_INTEGRATION") (codes "yes") ≡ codes "write one of these: internal|external"
  pub form : row_value_hint (codes "MOUSE_DPI resolutions mouse x") (codes "MOUSE_DPI") (codes "resolutions") ≡ codes "write resolutions above 0 with spaces between, as 400@125 *800@125"
  pub none : row_value_hint (codes "ID_PDA 0|1 * x") (codes "ID_PDA") (codes "\"\"") ≡ codes "write one of these: 0|1"

-- Names have letters, digits, `.` and `_`. One with other bytes is read nowhere.
pub record OddNameRows : Type 0 where
  pub plain : is_odd_name (codes "ID_INPUT_3D_MOUSE") ≡ false
  pub rule : is_odd_name (codes "ENV{ID_PDA}") ≡ true
  pub shell : is_odd_name (codes "export ID_PDA") ≡ true
  pub dash : is_odd_name (codes "ID-PDA") ≡ true
  pub dot : is_odd_name (codes ".ID_PDA") ≡ false
  pub blank : is_odd_name (codes "ID_PDA \t") ≡ false
  pub read : may_be_read (codes "ENV{WORKSHOP_LIGHT}") (codes "usb") ≡ false
  pub told_as_near : may_be_read (codes "ID-PDA") (codes "usb") ≡ true
  pub hint : unknown_hint (codes "ENV{WORKSHOP_LIGHT}") ≡ codes "write the name alone, in letters, digits and _"

-- names that differ by one byte, by case, or by two bytes that are swapped; all names that begin so, and words that are lost
pub record NameRows : Type 0 where
  pub case : is_near (codes "leftctrl") (codes "LEFTCTRL") ≡ true
  pub less : is_near (codes "leftctrl") (codes "leftctr") ≡ true
  pub other : is_near (codes "leftctrl") (codes "lefxctrl") ≡ true
  pub two : is_near (codes "leftctrl") (codes "leftc") ≡ false
  pub swapped : is_near (codes "ANGLE") (codes "ANGEL") ≡ true
  pub turned : is_near (codes "ANGLE") (codes "ANELG") ≡ false
  pub begins : is_near_name (codes "KEYBOARD_KEY_") (codes "KEYBORD_KEY_70039") ≡ true
  pub begins_more : is_near_name (codes "KEYBOARD_KEY_") (codes "KEYBOARDS_KEY_70039") ≡ true
  pub another : is_near_name (codes "KEYBOARD_KEY_") (codes "KEYBOARD_LED_NUMLOCK") ≡ false
  pub lost : has_lost_words (codes "MOUSE_WHEEL_CLICK_ANGLE") (codes "MOUSE_WHEEL_ANGLE") ≡ true
  pub lost_code : has_lost_words (codes "KEYBOARD_KEY_") (codes "KEYBOARD_70039") ≡ true
  pub other_word : has_lost_words (codes "MOUSE_WHEEL_CLICK_ANGLE") (codes "MOUSE_WHEEL_STEP") ≡ false
  pub no_code : has_lost_words (codes "MOUSE_DPI") (codes "MOUSE_70039") ≡ false

-- below which prefixes a property is read
pub record ReadRows : Type 0 where
  pub own : is_read_by_row (codes "ACCEL_MOUNT_MATRIX matrix sensor|evdev x") (codes "evdev") ≡ true
  pub other : is_read_by_row (codes "ACCEL_MOUNT_MATRIX matrix sensor|evdev x") (codes "mouse") ≡ false
  pub part : is_read_by_row (codes "ACCEL_MOUNT_MATRIX matrix sensor|evdev x") (codes "sens") ≡ false
  pub anywhere : is_read_by_row (codes "ID_INTEGRATION internal|external * x") (codes "mouse") ≡ true
  pub unknown : may_be_read (codes "WORKSHOP_LIGHT") (codes "usb") ≡ true
  pub known_below : may_be_read (codes "WORKSHOP_LIGHT") (codes "mouse") ≡ false
  pub told_as_near : may_be_read (codes "MOUSE_DP") (codes "mouse") ≡ true
  pub told_as_old : may_be_read (codes "POINTINGSTICK_CONST_ACCEL") (codes "evdev") ≡ true

-- What Linux logs as e0 37 is the code b7: 37 and the bit before it. So it is from 00 to 7f (atkbd.c).
pub record CodeRows : Type 0 where
  pub logged : has_logged_code (codes "KEYBOARD_KEY_e037") ≡ true
  pub last : has_logged_code (codes "KEYBOARD_KEY_e07f") ≡ true
  pub eight_bits : has_logged_code (codes "KEYBOARD_KEY_e0b7") ≡ false
  pub short : has_logged_code (codes "KEYBOARD_KEY_e03") ≡ false
  pub plain : has_logged_code (codes "KEYBOARD_KEY_b7") ≡ false
  pub axis : has_logged_code (codes "EVDEV_ABS_e037") ≡ false
  pub digit : raised (codes "37") ≡ codes "b7"
  pub first : raised (codes "0f") ≡ codes "8f"
  pub high : raised (codes "7f") ≡ codes "ff"

-- what people call keys, with the front of linux/input-event-codes.h or in quotes
pub record KeyRows : Type 0 where
  pub front : bare_key (codes "KEY_LEFTCTRL") ≡ codes "LEFTCTRL"
  pub quotes : bare_key (codes "!\"esc\"") ≡ codes "esc"
  pub both : bare_key (codes "'key_escape'") ≡ codes "escape"
  pub plain : bare_key (codes "ctrl") ≡ codes "ctrl"
  pub one : bare_hint (codes "escape") ≡ codes "did you mean esc?"
  pub several : bare_hint (codes "Ctrl") ≡ codes "did you mean leftctrl or rightctrl?"
  pub capitals : bare_hint (codes "F1") ≡ codes "did you mean f1?"
  pub near : bare_hint (codes "ecs") ≡ codes "did you mean esc?"

-- a pattern that is given a key
abbrev pub gives : (pattern key : String) → Assignment
gives pattern key = record {
  position = record { priority = 1; line = 1; pattern = codes pattern; key = codes key };
  value = codes "1";
  path = [];
}

-- a count of a wheel belongs to its angle, given to the same pattern
pub record PairRows : Type 0 where
  pub alone : is_alone (gives "p" "MOUSE_WHEEL_CLICK_COUNT" ∷ []) (gives "p" "MOUSE_WHEEL_CLICK_COUNT") ≡ true
  pub both :
      is_alone (gives "p" "MOUSE_WHEEL_CLICK_COUNT" ∷ gives "p" "MOUSE_WHEEL_CLICK_ANGLE" ∷ []) (gives "p" "MOUSE_WHEEL_CLICK_COUNT") ≡ false
  pub apart :
      is_alone (gives "p" "MOUSE_WHEEL_CLICK_COUNT" ∷ gives "q" "MOUSE_WHEEL_CLICK_ANGLE" ∷ []) (gives "p" "MOUSE_WHEEL_CLICK_COUNT") ≡ true
  pub angle : is_alone (gives "p" "MOUSE_WHEEL_CLICK_ANGLE" ∷ []) (gives "p" "MOUSE_WHEEL_CLICK_ANGLE") ≡ false
  pub across :
      is_alone (gives "p" "MOUSE_WHEEL_CLICK_COUNT" ∷ gives "p" "MOUSE_WHEEL_CLICK_ANGLE" ∷ [])
      (gives "p" "MOUSE_WHEEL_CLICK_COUNT_HORIZONTAL") ≡ true
