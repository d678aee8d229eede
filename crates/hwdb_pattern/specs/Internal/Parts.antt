-- Our own words: what the code knows of a part of a pattern beside one byte of a device.
use Rattle.std.specs.Prelude.{Bool, List, Option, find, nat_eq, ℕ, true, if◌then◌else◌, ◌+◌}
use Rattle.std.specs.List.{list_any, starts_with}
use Rattle.std.specs.Option.{option_map_or}
use Rattle.hwdb_pattern.specs.declared.brackets.Part.{Part}
use Rattle.hwdb_spec.specs.Patterns.{Items, in_span, classes, class_text, Token, admits_byte, token_size, Bracket, bracket, literal}
use Rattle.hwdb_spec.specs.declared.Class.{Class}

-- how many bytes it takes, and whether it admits the byte
abbrev pub part : ℕ → Bool → Part
part size admits = record { size = size; admits = admits }

-- whether the byte is in one of the spans
abbrev pub in_spans : List (ℕ × ℕ) → ℕ → Bool
in_spans spans b = list_any (in_span b) spans

-- the named class at the beginning of a text
abbrev pub class_at : List ℕ → Option Class
class_at text = find (λ c. starts_with nat_eq text (class_text c)) classes

-- a `[` that begins no closed bracket is an ordinary byte
abbrev pub bracket_or_byte : Option Bracket → Token
bracket_or_byte o = option_map_or bracket o (literal 91)

-- items of so many bytes of text, with these spans
abbrev pub items : ℕ → List (ℕ × ℕ) → Items
items size spans = record { size = size; spans = spans }

abbrev pub items_part : ℕ → Items → Part
items_part byte found = part found.size (in_spans found.spans byte)

abbrev pub token_part : ℕ → Token → Part
token_part byte t = part (token_size t) (admits_byte t byte)

abbrev pub bracket_part : ℕ → Bracket → Part
bracket_part byte found = token_part byte (bracket found)

-- what all the items of a bracket are, if those from a place on are these and some before admitted the byte
abbrev pub ahead : ℕ → Bool → ℕ → Items → Part
ahead at admitted byte more = part (at + more.size) (if admitted then true else in_spans more.spans byte)

abbrev pub bracket_size : Bracket → ℕ
bracket_size found = found.size
