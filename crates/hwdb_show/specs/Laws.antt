-- What the laws say of a line that is shown, and of the mark below it.
use Rattle.std.specs.Prelude.{List, [], ◌∷◌, ◌++◌, ◌<◌, ◌≤◌, ◌≡◌, codes, get_or, length, replicate, take, ℕ}
use Rattle.hwdb_spec.specs.Lines.{byte}
use Rattle.hwdb_spec_commands.specs.Reports.{mark_line, max_shown, shown, shown_byte, shown_line, spaces}

-- The mark is below the byte of its place. Before that byte the shown line has as many bytes as the mark's line has spaces.
abbrev pub MarkIsBelowByte : Type 0
MarkIsBelowByte =
    (text : List ℕ) (at : ℕ) → at < length text
    → (before : List ℕ) × (after : List ℕ) × (shown_line text at ≡ before ++ (shown_byte (get_or text at 0) ++ after))
    × (mark_line text at ≡ spaces before ++ codes "^\n")

-- If the place is the line's end, the mark is after all that is shown.
abbrev pub MarkIsAtEnd : Type 0
MarkIsAtEnd =
    (text : List ℕ) → (before : List ℕ) × (shown_line text (length text) ≡ before ++ byte "\n" ∷ [])
    × (mark_line text (length text) ≡ spaces before ++ codes "^\n")

-- a line that fits is shown whole, whatever its place
abbrev pub FittingIsWhole : Type 0
FittingIsWhole = (text : List ℕ) (at : ℕ) → length text ≤ max_shown → shown_line text at ≡ codes "    " ++ (shown text ++ byte "\n" ∷ [])

-- of a line that doesn't fit the front is shown, if its place is there
abbrev pub FrontIsShown : Type 0
FrontIsShown =
    (text : List ℕ) (at : ℕ) → max_shown < length text → at < max_shown
    → shown_line text at ≡ codes "    " ++ (shown (take max_shown text) ++ codes "...\n")

-- a line of three letters, 120 of each
abbrev pub three_letters : List ℕ
three_letters = replicate 120 97 ++ (replicate 120 98 ++ replicate 120 99)

-- 80 bytes are shown before the place and 80 from it on, with `...` on both sides
abbrev pub WindowRow : Type 0
WindowRow = shown_line three_letters 200 ≡ codes "    ..." ++ (replicate 120 98 ++ (replicate 40 99 ++ codes "...\n"))
