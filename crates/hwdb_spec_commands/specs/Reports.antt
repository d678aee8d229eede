-- What `check` prints of the faults of text files: for each where it is, its line, and the place in that line. And what
-- to do about it. Our choice.
use Rattle.std.specs.Prelude.{ℕ, List, [], ◌∷◌, ◌++◌, ◌+◌, ◌-◌, ◌==◌, if◌then◌else◌, codes, drop, flat_map, length, map, nat_lt, take}
use Rattle.std.specs.List.{position_or_len, prefix_len}
use Rattle.hex.specs.Hex.{encode_lower}
use Rattle.hwdb_spec.specs.Lines.{Line, byte, is, is_indent, max_pattern}
use Rattle.hwdb_spec.specs.Patterns.{in_span}
use Rattle.hwdb_spec.specs.declared.FaultKind.{FaultKind}
use Rattle.hwdb_spec.specs.declared.FaultKind.TheVariants.{EmptyKey, LongMatch, NoEquals, NoProperty, StrayMatch, StrayProperty, ZeroByte}

-- how many bytes of a line are shown at most: 160
abbrev pub max_shown : ℕ
max_shown = 160

-- a byte, as it is shown: as it is if ASCII prints it (bytes 32 to 126), else as `\x` and its two hexadecimal digits
abbrev pub shown_byte : ℕ → List ℕ
shown_byte b = if in_span b (32, 126) then b ∷ [] else codes "\\x" ++ encode_lower (b ∷ [])

-- some bytes, as they are shown
abbrev pub shown : List ℕ → List ℕ
shown text = flat_map shown_byte text

-- how many bytes before the place are shown of a line whose front is cut: 80
abbrev pub shown_before : ℕ
shown_before = 80

-- After how many bytes of a line begins what is shown of it. It is the line's front if the line fits, or if its place is
-- among the first bytes that are shown. Else it is so many bytes before the place.
abbrev pub window_start : (text : List ℕ) (at : ℕ) → ℕ
window_start text at = if nat_lt max_shown (length text) then (if nat_lt at max_shown then 0 else at - shown_before) else 0

-- the bytes of a line that are shown
abbrev pub window : (text : List ℕ) (at : ℕ) → List ℕ
window text at = take max_shown (drop (window_start text at) text)

-- `...` in place of what isn't shown of a line before these bytes
abbrev pub front_cut : (text : List ℕ) (at : ℕ) → List ℕ
front_cut text at = if nat_lt 0 (window_start text at) then codes "..." else []

-- `...` in place of what isn't shown of a line after these bytes
abbrev pub back_cut : (text : List ℕ) (at : ℕ) → List ℕ
back_cut text at = if nat_lt (window_start text at + max_shown) (length text) then codes "..." else []

-- the line that shows a line with a place: four spaces, and the bytes that are shown of it
abbrev pub shown_line : (text : List ℕ) (at : ℕ) → List ℕ
shown_line text at = codes "    " ++ (front_cut text at ++ (shown (window text at) ++ (back_cut text at ++ byte "\n" ∷ [])))

-- as many spaces as a text has bytes
abbrev pub spaces : List ℕ → List ℕ
spaces text = map (λ b. byte " ") text

-- what is shown of a line before its place
abbrev pub above_mark : (text : List ℕ) (at : ℕ) → List ℕ
above_mark text at = front_cut text at ++ shown (take (at - window_start text at) (window text at))

-- the line below a shown line, with a `^` below the byte of its place
abbrev pub mark_line : (text : List ℕ) (at : ℕ) → List ℕ
mark_line text at = codes "    " ++ (spaces (above_mark text at) ++ codes "^\n")

-- After how many bytes of its line a fault is: where the property begins, at the line's first byte, or at the first
-- byte 0. Or it is at the first byte that is too much.
abbrev pub fault_place : FaultKind → List ℕ → ℕ
fault_place StrayProperty text = prefix_len is_indent text
fault_place NoProperty text = 0
fault_place StrayMatch text = 0
fault_place NoEquals text = prefix_len is_indent text
fault_place EmptyKey text = prefix_len is_indent text
fault_place ZeroByte text = position_or_len (is 0) text
fault_place LongMatch text = max_pattern

-- what to do about a fault, one text for each kind
abbrev pub fault_hint : FaultKind → List ℕ
fault_hint StrayProperty = codes "put a match line above it, with no empty line between them"
fault_hint NoProperty = codes "put a property below it, on a line that begins with a space, or take the match line away"
fault_hint StrayMatch = codes "put an empty line above it and its properties below it; a property begins with a space"
fault_hint NoEquals = codes "write it as KEY=VALUE; a match line begins without a space"
fault_hint EmptyKey = codes "put a key in front of the ="
fault_hint ZeroByte = codes "take the byte away, or save the file as text without bytes 0, as UTF-8"
fault_hint LongMatch = codes "shorten it, as by a * in place of what may differ"

-- the line of what to do
abbrev pub hint_line : List ℕ → List ℕ
hint_line hint = codes "    hint: " ++ (hint ++ byte "\n" ∷ [])

-- the text of the line with this number; nothing if there is no such line
abbrev pub text_of_line : List Line → ℕ → List ℕ
text_of_line [] number = []
text_of_line (l ∷ more) number = if l.number == number then l.text else text_of_line more number
