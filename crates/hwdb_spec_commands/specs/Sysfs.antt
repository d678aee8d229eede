-- What sysfs holds of a device and its parents, and how udev reads it: sd-device and udev-util.c of systemd 257.
use Rattle.std.specs.Prelude.{Bool, true, false, ℕ, zero, suc, List, [], ◌∷◌, ◌-◌, ◌==◌, ◌%◌, Option, None, Some, if◌then◌else◌, codes, drop, length, nat_eq, nat_lt, not, option_map, take}
use Rattle.std.specs.List.{find, list_any, starts_with}
use Rattle.std.specs.Option.{option_map_or, unwrap_or}
use Rattle.std.specs.Str.{is_utf8}
use Rattle.hwdb_spec.specs.Folders.{same}
use Rattle.hwdb_spec.specs.Lines.{byte, has, is, is_blank, is_none, pieces}
use Rattle.hwdb_spec.specs.Patterns.{in_span}

-- a file below a device's folder, by its path there, and its bytes
pub record Attribute : Type 0 where
  pub name : List ℕ
  pub value : List ℕ

-- A device or a parent of one: its path below sysfs, the kernel's name, and the last names of its links `subsystem` and `driver`.
-- These are empty without such a link. Then its file `uevent`, and those of its attributes that rules ask for.
pub record Ancestor : Type 0 where
  pub path : List ℕ
  pub name : List ℕ
  pub subsystem : List ℕ
  pub driver : List ℕ
  pub uevent : List ℕ
  pub attributes : List Attribute

-- A device: itself and its parents, each above the one before, and what the firmware's attribute `modalias` says of the machine.
pub record Device : Type 0 where
  pub chain : List Ancestor
  pub machine : List ℕ

-- ---- texts

-- a text without the bytes at its end that pass
unfoldable pub cut_back : (ℕ → Bool) → List ℕ → List ℕ
cut_back test [] = []
cut_back test (b ∷ rest) = if (if is_none (cut_back test rest) then test b else false) then [] else b ∷ cut_back test rest

-- the ends of lines (NEWLINE of string-util.h)
abbrev pub is_line_end : ℕ → Bool
is_line_end b = if b == byte "\n" then true else b == byte "\r"

-- what is taken from the end of an attribute's value (WHITESPACE of string-util.h)
abbrev pub is_white : ℕ → Bool
is_white b = if is_line_end b then true else (if b == byte " " then true else b == byte "\t")

-- the bytes that udev leaves in a value (`allow_listed_char_for_devnode`, with `/ $%?,`)
abbrev pub is_left : ℕ → Bool
is_left b =
    if in_span b (48, 57) then true else (if in_span b (65, 90) then true else (if in_span b (97, 122) then true
    else list_any (λ c. nat_eq c b) (codes "#+-.:=@_/ $%?,")))

-- how many bytes a character of UTF-8 has, by its first byte
abbrev pub size_by_first : ℕ → ℕ
size_by_first b = if nat_lt b 194 then 1 else (if nat_lt b 224 then 2 else (if nat_lt b 240 then 3 else (if nat_lt b 245 then 4 else 1)))

-- whether the bytes of one character are those of one that Unicode has for no use (`unichar_is_valid`)
abbrev pub is_unused : List ℕ → Bool
is_unused (a ∷ b ∷ c ∷ []) =
    if a == 239 then (if b == 183 then in_span c (144, 175) else (if b == 191 then in_span c (190, 191) else false)) else false
is_unused (a ∷ b ∷ c ∷ d ∷ []) = if b % 16 == 15 then (if c == 191 then in_span d (190, 191) else false) else false
is_unused text = false

-- whether these are UTF-8, and no such character
abbrev pub is_used : List ℕ → Bool
is_used text = if is_utf8 text then not (is_unused text) else false

-- whether these are one character of more than one byte
abbrev pub is_wide : ℕ → List ℕ → Bool
is_wide size text = if nat_lt 1 size then (if length text == size then is_used text else false) else false

-- How many of the first bytes of a text are left as they are: `\x`, and a character of more than one byte. Else it is none.
abbrev pub left_whole : ℕ → List ℕ → ℕ
left_whole b rest =
    if (if b == byte "\\" then starts_with nat_eq rest (codes "x") else false) then 2
    else (if is_wide (size_by_first b) (take (size_by_first b) (b ∷ rest)) then size_by_first b else 0)

-- a byte in place of one that isn't left
abbrev pub put_for : ℕ → ℕ
put_for b = if is_blank b then byte " " else byte "_"

-- A text as udev writes it into a string (`udev_replace_chars`): bytes that it doesn't allow become `_`, other blanks a space. The
-- first `skip` bytes belong to what was read before.
unfoldable pub replaced : (skip : ℕ) → List ℕ → List ℕ
replaced skip [] = []
replaced (suc skip) (b ∷ rest) = b ∷ replaced skip rest
replaced zero (b ∷ rest) =
    if is_left b then b ∷ replaced 0 rest
    else (if nat_lt 0 (left_whole b rest) then b ∷ replaced (left_whole b rest - 1) rest
    else put_for b ∷ replaced 0 rest)

-- a value as it is in a string: without white space at its end, and replaced
abbrev pub written : List ℕ → List ℕ
written value = replaced 0 (cut_back is_white value)

-- how many bytes of a value udev takes (UDEV_NAME_SIZE of udev-def.h, less the byte 0 at its end)
abbrev pub longest_value : ℕ
longest_value = 511

-- A value as `$attr{}` gives it. udev doesn't run a lookup if one is longer (`truncated` in udev-rules.c): that is said by a byte 0, which
-- no string of udev's has.
abbrev pub put_in : List ℕ → List ℕ
put_in value = if nat_lt longest_value (length value) then 0 ∷ [] else written value

-- whether udev runs a lookup with this text
abbrev pub is_run : List ℕ → Bool
is_run text = not (has 0 text)

-- what a file says of the machine, as `$attr{[dmi/id]..}` gives it: udev cuts a longer one (`udev_resolve_subsys_kernel`)
abbrev pub cut_short : List ℕ → List ℕ
cut_short value = written (take longest_value (cut_back is_line_end value))

-- ---- a device by itself

-- the value under a name, the first if there are several
unfoldable pub value_of : List ℕ → List Attribute → Option (List ℕ)
value_of name [] = None
value_of name (a ∷ more) = if same a.name name then Some a.value else value_of name more

-- an attribute's value, without ends of lines after it; none if there is no such file (`sd_device_get_sysattr_value`)
abbrev pub attribute : List ℕ → Ancestor → Option (List ℕ)
attribute name a = option_map (cut_back is_line_end) (value_of name a.attributes)

-- an attribute's value; empty if there is none
abbrev pub attribute_text : List ℕ → Ancestor → List ℕ
attribute_text name a = unwrap_or (attribute name a) []

-- the line that begins so; none if none does
abbrev pub line_with : (start : List ℕ) → List ℕ → Option (List ℕ)
line_with start text = find (λ line. starts_with nat_eq line start) (pieces (is (byte "\n")) text)

-- what `uevent` says under a name, which is given with its `=`
abbrev pub uevent_value : List ℕ → Ancestor → Option (List ℕ)
uevent_value start a = option_map (drop (length start)) (line_with start a.uevent)

-- whether a device is in a subsystem
abbrev pub is_in : List ℕ → Ancestor → Bool
is_in subsystem a = same a.subsystem subsystem

-- whether a device has that driver
abbrev pub has_driver : List ℕ → Ancestor → Bool
has_driver driver a = same a.driver driver

-- whether the kernel's name of a device begins so
abbrev pub is_named : List ℕ → Ancestor → Bool
is_named start a = starts_with nat_eq a.name start

-- whether an attribute has a value
abbrev pub attribute_is : (name value : List ℕ) → Ancestor → Bool
attribute_is name value a = same (attribute_text name a) value

-- whether there is an attribute, and it isn't empty
abbrev pub has_text : List ℕ → Ancestor → Bool
has_text name a = if is_none (attribute_text name a) then false else true

-- whether `uevent` has a value under a name, which is given with its `=`
abbrev pub uevent_is : (start value : List ℕ) → Ancestor → Bool
uevent_is start value a = same (unwrap_or (uevent_value start a) []) value

-- a device on USB itself, and none of its interfaces
abbrev pub is_usb_device : Ancestor → Bool
is_usb_device a = if is_in (codes "usb") a then uevent_is (codes "DEVTYPE=") (codes "usb_device") a else false

-- ---- a device among its parents

-- a device or a parent, and after how many others it comes
pub record At : Type 0 where
  pub place : ℕ
  pub ancestor : Ancestor

-- The first that passes, counted from a number on. udev(7): KERNELS, SUBSYSTEMS, DRIVERS and ATTRS search the devpath upwards. All
-- of them have to match one device.
unfoldable pub first_at : (Ancestor → Bool) → ℕ → List Ancestor → Option At
first_at test place [] = None
first_at test place (a ∷ more) = if test a then Some (record { place = place; ancestor = a }) else first_at test (suc place) more

-- the first of a device and its parents that passes
abbrev pub first_of : (Ancestor → Bool) → List Ancestor → Option At
first_of test chain = first_at test 0 chain

-- whether one of them passes
abbrev pub some : (Ancestor → Bool) → List Ancestor → Bool
some test chain = option_map_or (λ found. true) (first_of test chain) false
