-- Lines as they were likely meant, of which a warning is told: `check --format json` has them as `fix`, and a log in SARIF under `fixes`.
-- There is one only if it is sure, as the hint writes it. Our choice.
use Rattle.std.specs.Prelude.{Bool, true, false, ◌==◌, ℕ, List, [], ◌∷◌, ◌++◌, Option, None, Some, if◌then◌else◌, drop, filter, length, map, not, take}
use Rattle.std.specs.List.{prefix_len}
use Rattle.std.specs.Option.{option_map}
use Rattle.hwdb_spec.specs.Lines.{Line, begins_with, byte, is_indent, is_none, key, trimmed, value}
use Rattle.hwdb_spec.specs.declared.Judgement.{Judgement}
use Rattle.hwdb_spec.specs.declared.Judgement.TheVariants.{Dead, Fine, UnknownPrefix}
use Rattle.hwdb_spec_commands.specs.Fields.{meant_field}
use Rattle.hwdb_spec_commands.specs.Mends.{mended}
use Rattle.hwdb_spec_commands.specs.Properties.{after_word, bare_code, is_axis_code, is_axis_name, is_hex_digit, is_made_of, letters_row, lower, property_row, row_for, value_meant, without, without_key, word}
use Rattle.hwdb_spec_commands.specs.declared.WarningKind.{WarningKind}
use Rattle.hwdb_spec_commands.specs.declared.WarningKind.TheVariants.{Misused, SpacedEquals, Unlikely, Unmatched}
use Rattle.hwdb_spec_commands.specs.declared.vocabulary.Misuse.TheVariants.{ScanCode, UnfitValue, UnknownKey}
use Rattle.hwdb_spec_commands.specs.declared.vocabulary.TheConstants.{AXIS_CODES, KEY_NAMES}

-- ---- Names and values; an empty text if none is sure

-- a name with the code of an axis that evtest shows in decimal
abbrev pub axis_meant : (own code : List ℕ) → List ℕ
axis_meant own code = if is_none (row_for AXIS_CODES.now code) then [] else own ++ after_word (row_for AXIS_CODES.now code)

-- a name with a code in hexadecimal digits, in lower case
abbrev pub hex_meant : (own code : List ℕ) → List ℕ
hex_meant own code = if (if is_axis_name own then not (is_axis_code code) else false) then axis_meant own code else own ++ map lower code

-- a name with a code that its property takes
abbrev pub code_meant : (own code : List ℕ) → List ℕ
code_meant own code = if is_made_of is_hex_digit code then hex_meant own code else []

-- a name whose code its property doesn't take, as it was likely meant
abbrev pub name_meant : (name : List ℕ) → List ℕ
name_meant name = code_meant (word (property_row name)) (bare_code (word (property_row name)) name)

-- whether a byte is a quote
abbrev pub is_quote : ℕ → Bool
is_quote b = if b == byte "\"" then true else b == byte "'"

-- a text without its quotes
abbrev pub unquoted : List ℕ → List ℕ
unquoted text = filter (λ b. not (is_quote b)) text

-- the `!` that a value begins with, if it does
abbrev pub mark_of : List ℕ → List ℕ
mark_of text = if begins_with (byte "!") text then take 1 text else []

-- a key after such a mark
abbrev pub marked_key : (mark name : List ℕ) → List ℕ
marked_key mark name = if is_none name then [] else mark ++ name

-- the key that a value is but for quotes, `KEY_` and the case of letters
abbrev pub key_meant : (text : List ℕ) → List ℕ
key_meant text = marked_key (mark_of text) (word (letters_row KEY_NAMES.now (without_key (unquoted (without (byte "!") text)))))

-- ---- Lines

-- a property with another name and another value
abbrev pub property_with : (clean : Line) (name value : List ℕ) → List ℕ
property_with clean name value = take (prefix_len is_indent clean.text) clean.text ++ (name ++ (byte "=" ∷ value))

-- the same, if this text is sure
abbrev pub if_sure : (sure line : List ℕ) → Option (List ℕ)
if_sure sure line = if is_none sure then None else Some line

-- a pattern that matches no string of udev
abbrev pub pattern_meant : Judgement → (pattern : List ℕ) → Option (List ℕ)
pattern_meant Fine pattern = None
pattern_meant UnknownPrefix pattern = None
pattern_meant (Dead place) pattern = mended pattern place

-- a pattern that goes wrong at a place, unless it has what is nearly the name of a field there
abbrev pub mended_if : (field pattern : List ℕ) (place : ℕ) → Option (List ℕ)
mended_if field pattern place = if is_none field then mended pattern place else None

-- a pattern that matches none that udev likely asks
abbrev pub likely_meant : Judgement → (pattern : List ℕ) → Option (List ℕ)
likely_meant Fine pattern = None
likely_meant UnknownPrefix pattern = None
likely_meant (Dead place) pattern = mended_if (meant_field (drop place pattern)) pattern place

-- a clean line, as it was likely meant
abbrev pub meant : WarningKind → (clean : Line) → Option (List ℕ)
meant SpacedEquals clean =
    if_sure (trimmed (key clean)) (property_with clean (trimmed (key clean)) (drop (prefix_len is_indent (value clean)) (value clean)))
meant (Misused ScanCode) clean = if_sure (name_meant (key clean)) (property_with clean (name_meant (key clean)) (value clean))
meant (Misused UnknownKey) clean = if_sure (key_meant (value clean)) (property_with clean (key clean) (key_meant (value clean)))
meant (Misused UnfitValue) clean =
    let text = value_meant (property_row (key clean)) (value clean) in if_sure text (property_with clean (key clean) text)
meant (Unmatched told) clean = pattern_meant told clean.text
meant (Unlikely told) clean = likely_meant told clean.text
meant _ clean = None

-- a whole line, as it was likely meant; what comes after its clean text stays
abbrev pub fix : WarningKind → (clean : Line) (source : List ℕ) → Option (List ℕ)
fix kind clean source = option_map (λ text. text ++ drop (length clean.text) source) (meant kind clean)
