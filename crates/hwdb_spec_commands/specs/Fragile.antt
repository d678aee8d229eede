-- Patterns that name the firmware of a machine beside its model: after an update of the firmware they match no more. Our choice.
use Rattle.std.specs.Prelude.{Bool, true, false, ℕ, List, [], ◌∷◌, ◌++◌, ◌+◌, ◌-◌, if◌then◌else◌, codes, drop, flat_map, length, nat_eq, not, suc, take}
use Rattle.std.specs.List.{list_any, prefix_len, starts_with}
use Rattle.hwdb_spec.specs.Forms.{is_wild}
use Rattle.hwdb_spec.specs.Lines.{begins_with, byte, is, is_none, pieces}
use Rattle.hwdb_spec_commands.specs.Mends.{last_of}
use Rattle.hwdb_spec_commands.specs.Properties.{before, row_for}
use Rattle.hwdb_spec_commands.specs.Reports.{shown}
use Rattle.hwdb_spec_commands.specs.declared.vocabulary.TheConstants.{PLACEHOLDERS}

-- What comes after the first `dmi:` of a pattern: fields of the machine's MODALIAS, with colons between (`get_modalias` of
-- drivers/firmware/dmi-id.c of Linux).
abbrev pub machine_of : List ℕ → List ℕ
machine_of [] = []
machine_of (b ∷ more) = if starts_with nat_eq (b ∷ more) (codes "dmi:") then drop 3 more else machine_of more

-- how many stars a text begins with
abbrev pub stars : List ℕ → ℕ
stars text = prefix_len (is (byte "*")) text

-- a text without the stars that it begins with
abbrev pub bare : List ℕ → List ℕ
bare text = drop (stars text) text

-- the name of the firmware's field that a text begins with: its version, its date, or a release; an empty text if it is none
abbrev pub firmware_field : List ℕ → List ℕ
firmware_field text =
    if starts_with nat_eq text (codes "bvr") then codes "bvr" else
    (if starts_with nat_eq text (codes "bd") then codes "bd" else
    (if starts_with nat_eq text (codes "br") then codes "br" else
    (if starts_with nat_eq text (codes "efr") then codes "efr" else [])))

-- whether a value is a whole one: it isn't empty, and no wildcard is in it
abbrev pub is_whole : List ℕ → Bool
is_whole value = if is_none value then false else not (list_any is_wild value)

-- whether a text is a field of the firmware with a whole value
abbrev pub is_firmware : List ℕ → Bool
is_firmware text = if is_none (firmware_field text) then false else is_whole (drop (length (firmware_field text)) text)

-- whether a part of a pattern between colons names a firmware
abbrev pub is_versioned : List ℕ → Bool
is_versioned part = is_firmware (bare part)

-- whether a value names something: it has bytes besides stars, and isn't what a maker left as it was
abbrev pub is_name : List ℕ → Bool
is_name value =
    let word = before (byte "*") (bare value) in if is_none word then false else is_none (row_for PLACEHOLDERS.now word)

-- whether a part of a pattern between colons is this field, and names something
abbrev pub names : (field part : List ℕ) → Bool
names field part = if starts_with nat_eq (bare part) field then is_name (drop (length field) (bare part)) else false

-- whether one of some parts names a firmware, one a vendor, and one a product
abbrev pub are_fragile : List (List ℕ) → Bool
are_fragile parts =
    if list_any is_versioned parts then
    (if list_any (names (codes "svn")) parts then list_any (names (codes "pn")) parts else false) else false

-- whether a pattern names the firmware of a machine beside its vendor and its product
unfoldable pub is_fragile : List ℕ → Bool
is_fragile pattern = are_fragile (pieces (is (byte ":")) (machine_of pattern))

-- ---- Where, and what to do

-- whether a text begins with a part that names a firmware, if a part begins there
abbrev pub is_versioned_at : (begins : Bool) → List ℕ → Bool
is_versioned_at begins text = if begins then is_versioned (before (byte ":") text) else false

-- the place of the first part that names a firmware; `begins` is whether a part begins with the text
abbrev pub versioned_place : (begins : Bool) → List ℕ → ℕ
versioned_place begins [] = 0
versioned_place begins (b ∷ more) =
    if is_versioned_at begins (b ∷ more) then 0 else suc (versioned_place (begins_with (byte ":") (b ∷ more)) more)

-- the same in a pattern
unfoldable pub fragile_place : List ℕ → ℕ
fragile_place pattern = (length pattern - length (machine_of pattern)) + versioned_place true (machine_of pattern)

-- a part of a pattern, with any firmware in place of the one that it names
abbrev pub freed : List ℕ → List ℕ
freed part = if is_versioned part then take (stars part) part ++ (firmware_field (bare part) ++ byte "*" ∷ []) else part

-- the colon that a text ends with, if it does
abbrev pub last_colon : List ℕ → List ℕ
last_colon text = if begins_with (byte ":") (last_of text) then byte ":" ∷ [] else []

-- a pattern with any firmware in place of the one that it names
unfoldable pub outlasting : List ℕ → List ℕ
outlasting pattern =
    take (length pattern - length (machine_of pattern) - 1) pattern
    ++ (flat_map (λ part. byte ":" ∷ freed part) (pieces (is (byte ":")) (machine_of pattern)) ++ last_colon (machine_of pattern))

-- what to do about it
abbrev pub fragile_hint : (pattern : List ℕ) → List ℕ
fragile_hint pattern = codes "after an update of the firmware it matches no more: write " ++ shown (outlasting pattern)
