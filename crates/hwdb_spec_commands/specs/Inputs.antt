-- What kinds of input device udev sees in one, of those that rules ask for: the builtin `input_id` of systemd 257
-- (udev-builtin-input_id.c). The numbers are those of linux/input-event-codes.h.
use Rattle.std.specs.Prelude.{Bool, true, false, ℕ, zero, suc, List, [], ◌∷◌, ◌+◌, ◌-◌, ◌/◌, ◌%◌, ◌^◌, ◌==◌, if◌then◌else◌, codes, get_or, is_some, length, filter, nat_le, nat_lt, not, reverse}
use Rattle.std.specs.List.{after_first, before_first}
use Rattle.std.specs.Option.{option_map_or}
use Rattle.hwdb_spec.specs.Lines.{byte, is}
use Rattle.hwdb_spec.specs.Patterns.{in_span}
use Rattle.hwdb_spec_commands.specs.Sysfs.{Ancestor, attribute, attribute_text, first_of}

-- what kinds a device has
pub record Kinds : Type 0 where
  pub mouse : Bool
  pub touchpad : Bool
  pub joystick : Bool
  pub accelerometer : Bool

-- those of a device of which nothing is known
abbrev pub no_kinds : Kinds
no_kinds = record { mouse = false; touchpad = false; joystick = false; accelerometer = false }

-- ---- masks: words of 64 bits to the base 16, with spaces between, the last first in number

-- a mask, read from the right, after so many words
unfoldable pub after_words : ℕ → List ℕ → List ℕ
after_words zero mask = mask
after_words (suc n) mask = after_words n (after_first (is (byte " ")) mask)

-- the value of a digit to the base 16; of any other byte 0
abbrev pub digit_value : ℕ → ℕ
digit_value b = if in_span b (48, 57) then b - 48 else (if in_span b (97, 102) then b - 87 else 0)

-- whether a bit is in a mask that is read from the right
abbrev pub has_bit : ℕ → List ℕ → Bool
has_bit bit mask = digit_value (get_or (before_first (is (byte " ")) (after_words (bit / 64) mask)) (bit % 64 / 4) 0) / 2 ^ (bit % 4) % 2 == 1

-- how many of so many bits from one on are in a mask
unfoldable pub count_bits : (first many : ℕ) → List ℕ → ℕ
count_bits first zero mask = 0
count_bits first (suc many) mask = (if has_bit (first + many) mask then 1 else 0) + count_bits first many mask

-- an input device's masks, read from the right: events, axes, relative axes, keys and properties
pub record Bits : Type 0 where
  pub events : List ℕ
  pub axes : List ℕ
  pub relative : List ℕ
  pub keys : List ℕ
  pub properties : List ℕ

-- the masks of a device
abbrev pub bits_of : Ancestor → Bits
bits_of a = record {
  events = reverse (attribute_text (codes "capabilities/ev") a);
  axes = reverse (attribute_text (codes "capabilities/abs") a);
  relative = reverse (attribute_text (codes "capabilities/rel") a);
  keys = reverse (attribute_text (codes "capabilities/key") a);
  properties = reverse (attribute_text (codes "properties") a);
}

-- ---- what `test_pointers` looks at

-- ABS_X and ABS_Y
abbrev pub has_place : Bits → Bool
has_place b = if has_bit 0 b.axes then has_bit 1 b.axes else false

-- INPUT_PROP_ACCELEROMETER, or three axes and no EV_KEY
abbrev pub is_accelerometer : Bits → Bool
is_accelerometer b =
    if has_bit 6 b.properties then true else (if has_bit 1 b.events then false else (if has_place b then has_bit 2 b.axes else false))

-- BTN_STYLUS or BTN_TOOL_PEN
abbrev pub has_pen : Bits → Bool
has_pen b = if has_bit 331 b.keys then true else has_bit 320 b.keys

-- BTN_TOOL_FINGER without BTN_TOOL_PEN and without INPUT_PROP_DIRECT: a finger beside the screen
abbrev pub has_finger : Bits → Bool
has_finger b = if has_bit 325 b.keys then (if has_bit 320 b.keys then false else not (has_bit 1 b.properties)) else false

-- one of the sixteen buttons from BTN_MOUSE on
abbrev pub has_mouse_button : Bits → Bool
has_mouse_button b = nat_lt 0 (count_bits 272 16 b.keys)

-- EV_REL, REL_X and REL_Y
abbrev pub has_motion : Bits → Bool
has_motion b = if has_bit 2 b.events then (if has_bit 0 b.relative then has_bit 1 b.relative else false) else false

-- ABS_MT_POSITION_X and _Y; not if it claims to have all axes: ABS_MT_SLOT and the one before it
abbrev pub has_touches : Bits → Bool
has_touches b =
    if has_bit 53 b.axes then (if has_bit 54 b.axes then (if has_bit 47 b.axes then not (has_bit 46 b.axes) else true) else false) else false

-- BTN_TOUCH or INPUT_PROP_DIRECT
abbrev pub is_screen : Bits → Bool
is_screen b = if has_bit 330 b.keys then true else has_bit 1 b.properties

-- BTN_0 and BTN_1 without BTN_TOOL_PEN
abbrev pub has_pad : Bits → Bool
has_pad b = if has_bit 256 b.keys then (if has_bit 257 b.keys then not (has_bit 320 b.keys) else false) else false

-- EV_REL, with REL_WHEEL or REL_HWHEEL
abbrev pub has_wheel : Bits → Bool
has_wheel b = if has_bit 2 b.events then (if has_bit 8 b.relative then true else has_bit 6 b.relative) else false

-- The buttons from BTN_JOYSTICK, from BTN_TRIGGER_HAPPY1 and from BTN_DPAD_UP on; none if the last of a mouse's is there.
abbrev pub joystick_buttons : Bits → ℕ
joystick_buttons b = if has_bit 287 b.keys then 0 else count_bits 288 32 b.keys + (count_bits 704 40 b.keys + count_bits 544 4 b.keys)

-- these, and the axes from ABS_RX up to ABS_PRESSURE
abbrev pub joystick_parts : Bits → ℕ
joystick_parts b = joystick_buttons b + count_bits 3 21 b.axes

-- left control, caps lock, num lock, insert, mute, calculator, file, mail, play and dimmer
abbrev pub well_known_keys : List ℕ
well_known_keys = 29 ∷ 58 ∷ 69 ∷ 110 ∷ 113 ∷ 140 ∷ 144 ∷ 155 ∷ 164 ∷ 224 ∷ []

-- whether it has at least four of them, so that it is a keyboard
abbrev pub is_keyboard : Bits → Bool
is_keyboard b = if has_bit 1 b.events then nat_le 4 (length (filter (λ key. has_bit key b.keys) well_known_keys)) else false

-- ---- kinds

-- a pen with a place or touches, or a pad with a wheel that doesn't move
abbrev pub is_tablet : Bits → Bool
is_tablet b =
    if (if has_pen b then (if has_place b then true else has_touches b) else false) then true
    else (if has_pad b then (if has_wheel b then not (has_motion b) else false) else false)

-- a finger with a place or touches, and no pen
abbrev pub is_touchpad : Bits → Bool
is_touchpad b = if has_finger b then (if has_pen b then false else (if has_place b then true else has_touches b)) else false

-- what has a place is tested for a pen, for a finger, for a mouse's buttons and for touch before it may be a joystick
abbrev pub is_other : Bits → Bool
is_other b = if has_pen b then true else (if has_finger b then true else (if has_mouse_button b then true else is_screen b))

-- a button or an axis of a joystick
abbrev pub may_be_joystick : Bits → Bool
may_be_joystick b = if nat_lt 0 (joystick_parts b) then not (if has_place b then is_other b else false) else false

-- a joystick has two parts at least, and isn't a keyboard or a pad with a wheel
abbrev pub is_joystick : Bits → Bool
is_joystick b =
    if may_be_joystick b then (if is_keyboard b then false else (if nat_lt (joystick_parts b) 2 then false
    else not (if has_wheel b then has_pad b else false))) else false

-- a mouse's buttons with a place, and no pen or finger (a mouse of a virtual machine)
abbrev pub is_placed_mouse : Bits → Bool
is_placed_mouse b = if has_place b then (if has_pen b then false else (if has_finger b then false else has_mouse_button b)) else false

-- a mouse's buttons with motion, or without a place, if it is nothing else
abbrev pub is_moved_mouse : Bits → Bool
is_moved_mouse b =
    if (if is_tablet b then true else (if is_touchpad b then true else may_be_joystick b)) then false
    else (if has_mouse_button b then (if has_motion b then true else not (has_place b)) else false)

-- a mouse: by its place, or by its motion and buttons
abbrev pub is_mouse : Bits → Bool
is_mouse b = if is_placed_mouse b then true else is_moved_mouse b

-- a flag, and what is seen besides
abbrev pub either : Bool → Bool → Bool
either before seen = if before then true else seen

-- the kinds that are seen in masks, beside those before; an accelerometer is nothing else
abbrev pub with_bits : Kinds → Bits → Kinds
with_bits before b =
    let others = not (is_accelerometer b) in
    record {
      mouse = either before.mouse (if others then is_mouse b else false);
      touchpad = either before.touchpad (if others then is_touchpad b else false);
      joystick = either before.joystick (if others then is_joystick b else false);
      accelerometer = either before.accelerometer (is_accelerometer b);
    }

-- whether a device tells its events
abbrev pub has_events : Ancestor → Bool
has_events a = is_some (attribute (codes "capabilities/ev") a)

-- the kinds of a device, by the first of it and its parents that tells its events
abbrev pub kinds_by_bits : Kinds → List Ancestor → Kinds
kinds_by_bits before chain = option_map_or (λ found. with_bits before (bits_of found.ancestor)) (first_of has_events chain) before
