-- How a text is shown in colour. Each byte of a line is in a part of it, as a key or a path, and each part has a style. If the
-- style changes, a sequence comes before the byte (ECMA-48, 8.3.117, SGR). Which parts and which styles there are is our choice.
use Rattle.std.specs.Prelude.{Bool, true, false, ℕ, List, [], ◌∷◌, ◌++◌, ◌==◌, if◌then◌else◌, codes, map}
use Rattle.hwdb_spec.specs.Lines.{byte}
use Rattle.hwdb_spec_commands.specs.declared.colours.TextKind.{TextKind}
use Rattle.hwdb_spec_commands.specs.declared.colours.TextKind.TheVariants as text
use Rattle.hwdb_spec_commands.specs.declared.colours.LinePart.{LinePart}
use Rattle.hwdb_spec_commands.specs.declared.colours.LinePart.TheVariants as part
use Rattle.hwdb_spec_commands.specs.declared.colours.Style.{Style}
use Rattle.hwdb_spec_commands.specs.declared.colours.Style.TheVariants as style

-- a part is left at a byte for another one
abbrev pub at : ℕ → (byte_now : ℕ) → (after before : LinePart) → LinePart
at stop b after before = if b == stop then after else before

-- the part that the first byte of a line is in
abbrev pub first_part : TextKind → ℕ → LinePart
first_part text.Plain b = part.Value
first_part text.Properties b = part.Key
first_part text.Origins b = at (byte " ") b part.Blank part.Key
first_part text.Hits b = part.Path
first_part text.Reports b = at (byte " ") b part.Blank part.Path
first_part text.Changes b = part.Mark
first_part text.Records b = at (byte " ") b part.Key (at (byte "#") b part.Path part.Value)
first_part text.Counts b = part.Key
first_part text.DeviceChanges b = at (byte "+") b part.Mark (at (byte "-") b part.Mark (at (byte "~") b part.Mark part.Pattern))

-- the part that a later byte of a line is in, by that of the byte before it
abbrev pub next_part : TextKind → LinePart → ℕ → LinePart
next_part text.Counts part.Key b = at (byte ":") b part.Value part.Key
next_part text.Origins part.Blank b = at (byte " ") b part.Blank (at (byte "/") b part.Path part.Mark)
next_part text.Origins part.Path b = at (byte " ") b part.Value part.Path
next_part text.Origins part.Mark b = at (byte " ") b part.Key part.Mark
next_part text.Hits part.Path b = at (byte "\t") b part.Pattern part.Path
next_part text.Reports part.Blank b = at (byte " ") b part.Blank (at (byte "^") b part.Mark part.Value)
next_part text.Reports part.Path b = at (byte ":") b part.Number part.Path
next_part text.Reports part.Number b = at (byte ":") b part.Fault part.Number
next_part text.Changes part.Mark b = at (byte "\t") b part.Pattern part.Mark
next_part text.Changes part.Value b = at (byte "\t") b part.Path part.Value
next_part text.Changes part.Path b = at (byte "\t") b part.Key part.Path
next_part text.DeviceChanges part.Mark b = at (byte "\t") b part.Key part.Mark
next_part text.DeviceChanges part.Value b = at (byte "\t") b part.Path part.Value
next_part text.DeviceChanges part.Path b = at (byte "\t") b part.Key part.Path
next_part kind part.Pattern b = at (byte "\t") b part.Key part.Pattern
next_part kind part.Key b = at (byte "=") b part.Value part.Key
next_part kind before b = before

-- the part of a line, which has begun or begins
abbrev pub part_in_line : TextKind → LinePart → ℕ → LinePart
part_in_line kind part.Ended b = first_part kind b
part_in_line kind before b = next_part kind before b

-- the part that a byte is in, by that of the byte before it: a newline ends the line
abbrev pub part_at : TextKind → LinePart → ℕ → LinePart
part_at kind before b = if b == byte "\n" then part.Ended else part_in_line kind before b

-- the style of a part
abbrev pub style_of : LinePart → Style
style_of part.Key = style.Key
style_of part.Path = style.Path
style_of part.Number = style.Path
style_of part.Fault = style.Fault
style_of part.Mark = style.Mark
style_of before = style.Plain

-- the same of the bytes after one that is in this part
abbrev pub styled_after : TextKind → LinePart → List ℕ → List (Style × ℕ)
styled_after kind before [] = []
styled_after kind before (b ∷ bs) = (style_of (part_at kind before b), b) ∷ styled_after kind (part_at kind before b) bs

-- the bytes of a text, each with its style
abbrev pub styled : TextKind → List ℕ → List (Style × ℕ)
styled kind text = styled_after kind part.Ended text

-- the text, without its styles
abbrev pub plain : List (Style × ℕ) → List ℕ
plain bytes = map (λ b. b.1) bytes

-- the sequence that sets a style, whatever was set before it
abbrev pub sequence : Style → List ℕ
sequence style.Plain = 27 ∷ codes "[0m"
sequence style.Key = 27 ∷ codes "[0;36m"
sequence style.Path = 27 ∷ codes "[0;1m"
sequence style.Fault = 27 ∷ codes "[0;33m"
sequence style.Mark = 27 ∷ codes "[0;32m"

-- two styles are one
abbrev pub is_same : Style → Style → Bool
is_same style.Plain style.Plain = true
is_same style.Key style.Key = true
is_same style.Path style.Path = true
is_same style.Fault style.Fault = true
is_same style.Mark style.Mark = true
is_same before now = false

-- what comes between two bytes: nothing, if they have one style
abbrev pub turn : (before now : Style) → List ℕ
turn before now = if is_same before now then [] else sequence now

-- what is shown of bytes with their styles after one with this style; it ends without a style
abbrev pub painted_after : Style → List (Style × ℕ) → List ℕ
painted_after before [] = turn before style.Plain
painted_after before (b ∷ bs) = turn before b.0 ++ b.1 ∷ painted_after b.0 bs

-- what is shown of a text in colour
abbrev pub painted : TextKind → List ℕ → List ℕ
painted kind text = painted_after style.Plain (styled kind text)

-- a text without its sequences: what is between byte 27 and the next `m`, with both, is taken out
abbrev pub without_sequences : (within : Bool) → List ℕ → List ℕ
without_sequences within [] = []
without_sequences false (b ∷ bs) = if b == 27 then without_sequences true bs else b ∷ without_sequences false bs
without_sequences true (b ∷ bs) = if b == byte "m" then without_sequences false bs else without_sequences true bs
