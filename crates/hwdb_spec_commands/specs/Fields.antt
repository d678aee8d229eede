-- Where a pattern has what is nearly the name of a field of the machine's MODALIAS, right after a `*`. The `*` can take more bytes of a
-- value, so that strings match it: but hardly one that is meant. Our choice.
use Rattle.std.specs.Prelude.{Bool, true, false, ℕ, List, [], ◌∷◌, ◌+◌, ◌==◌, Option, None, Some, if◌then◌else◌, codes, drop, length, nat_eq, not, take}
use Rattle.std.specs.List.{list_any, prefix_len, starts_with}
use Rattle.hwdb_spec.specs.Lines.{byte, is_none}
use Rattle.hwdb_spec.specs.Patterns.{in_span}
use Rattle.hwdb_spec_commands.specs.Mends.{is_small}
use Rattle.hwdb_spec_commands.specs.Properties.{is_digit, near_row, row_for}
use Rattle.hwdb_spec_commands.specs.declared.vocabulary.TheConstants.{MACHINE_FIELDS}
use Rattle.hwdb_spec.specs.declared.Judgement.{Judgement}
use Rattle.hwdb_spec.specs.declared.Judgement.TheVariants.{Dead, Fine, UnknownPrefix}

-- the small letters at the front of a text
abbrev pub front_word : List ℕ → List ℕ
front_word text = take (prefix_len is_small text) text

-- a digit or a capital letter, with which most values begin
abbrev pub is_value_byte : ℕ → Bool
is_value_byte b = if is_digit b then true else in_span b (65, 90)

-- the name of a field that a word nearly is; an empty text if the word is one, begins with one, or is nearly none
abbrev pub nearly_field : List ℕ → List ℕ
nearly_field word =
    if is_none (row_for MACHINE_FIELDS.now word) then
    (if is_none (row_for MACHINE_FIELDS.now (take 2 word)) then near_row MACHINE_FIELDS.now word else []) else []

-- the name of a field that was likely meant by the front of a text: by three small letters, if a digit or a capital one comes next
abbrev pub meant_field : List ℕ → List ℕ
meant_field text =
    if length (front_word text) == 3 then
    (if list_any is_value_byte (take 1 (drop 3 text)) then nearly_field (front_word text) else []) else []

-- whether a text has a `*` at its front, and after it what is nearly the name of a field
abbrev pub is_odd_at : (inside : Bool) → List ℕ → Bool
is_odd_at inside [] = false
is_odd_at inside (b ∷ more) = if inside then (if b == byte "*" then not (is_none (meant_field more)) else false) else false

-- the place of the first such name after `dmi:`; `at` is that of the text, and `inside` is whether `dmi:` is before it
abbrev pub field_place : (inside : Bool) (at : ℕ) → List ℕ → Option ℕ
field_place inside at [] = None
field_place inside at (b ∷ more) =
    if is_odd_at inside (b ∷ more) then Some (at + 1)
    else field_place (if inside then true else starts_with nat_eq (b ∷ more) (codes "dmi:")) (at + 1) more

-- the same of a pattern of an input device or a sensor
abbrev pub odd_field : List ℕ → Option ℕ
odd_field pattern =
    if (if starts_with nat_eq pattern (codes "evdev:") then true else starts_with nat_eq pattern (codes "sensor:"))
    then field_place false 0 pattern else None

-- what is said of such a place
abbrev pub field_judgement : Option ℕ → Judgement
field_judgement None = Fine
field_judgement (Some place) = Dead place

-- what is said of a pattern, of whose form this is said
abbrev pub with_fields : Judgement → (pattern : List ℕ) → Judgement
with_fields Fine pattern = field_judgement (odd_field pattern)
with_fields UnknownPrefix pattern = UnknownPrefix
with_fields (Dead place) pattern = Dead place
