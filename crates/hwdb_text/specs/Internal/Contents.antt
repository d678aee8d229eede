-- What a line says, by itself.
use Rattle.std.specs.Prelude.{List, true, ℕ, ◌≡◌, false}
use Rattle.hwdb_text.specs.declared.line.Content.TheVariants.{Comment, Empty, Match, Property, ZeroByte}
use Rattle.hwdb_text.specs.declared.line.Content.{Content}
use Rattle.hwdb_spec.specs.Lines.{Line, clean_line, is_empty, is_match, is_property, begins_with, has}

-- the line with this number and this text
abbrev pub line : ℕ → List ℕ → Line
line number text = record { number = number; text = text }

-- what is read of a line's text
abbrev pub clean_text : List ℕ → List ℕ
clean_text text = (clean_line (line 0 text)).text

-- the kind of a clean line
abbrev pub IsKind : (clean : List ℕ) → Content → Type 0
IsKind clean Comment = ⊥
IsKind clean ZeroByte = ⊥
IsKind clean Empty = is_empty (line 0 clean) ≡ true
IsKind clean (Property text) = (text.now ≡ clean) × (is_property (line 0 clean) ≡ true)
IsKind clean (Match text) = (text.now ≡ clean) × (is_match (line 0 clean) ≡ true)

abbrev pub IsKept : (text : List ℕ) → Content → Type 0
IsKept text content = (begins_with 35 text ≡ false) × (has 0 text ≡ false) × IsKind (clean_text text) content

-- what the line says that has this text
abbrev pub IsContent : (text : List ℕ) → Content → Type 0
IsContent text Comment = begins_with 35 text ≡ true
IsContent text ZeroByte = (begins_with 35 text ≡ false) × (has 0 text ≡ true)
IsContent text Empty = IsKept text Empty
IsContent text (Property t) = IsKept text (Property t)
IsContent text (Match t) = IsKept text (Match t)
