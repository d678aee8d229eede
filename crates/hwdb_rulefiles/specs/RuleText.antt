-- A rules file as lines, after `udev_rules_parse_file` of udev-rules.c and `read_line_full` of fileio.c (systemd 257).
use Rattle.std.specs.Prelude.{List, [], ◌∷◌, ◌++◌, Bool, true, false, if◌then◌else◌, ℕ, zero, suc, ◌==◌, ◌+◌, ◌-◌, nat_le, nat_eq, drop, take, length, codes, Option, Some, None}
use Rattle.std.specs.List.{position_or_len, prefix_len, ends_with}
use Rattle.hwdb_spec.specs.Lines.{byte, begins_with, is_none, Line}

-- how long a row is that makes udev leave the file out, and a line that it leaves out, in bytes (UDEV_LINE_SIZE)
abbrev pub line_size : ℕ
line_size = 16384

-- space, tab, newline and carriage return (WHITESPACE)
abbrev pub is_white : ℕ → Bool
is_white b = if b == byte " " then true else (if b == byte "\t" then true else (if b == byte "\n" then true else b == 13))

-- newline, carriage return and byte 0 end a row
abbrev pub ends_row : ℕ → Bool
ends_row b = if b == byte "\n" then true else (if b == 13 then true else b == 0)

-- 1 if a text begins with the byte, else 0
abbrev pub one_if : ℕ → List ℕ → ℕ
one_if b text = if begins_with b text then 1 else 0

-- how many bytes of a newline a text begins with: a newline and a carriage return, in any order, or one of them
abbrev pub newline_len : List ℕ → ℕ
newline_len text =
    if begins_with (byte "\n") text then 1 + one_if 13 (drop 1 text) else (if begins_with 13 text then 1 + one_if (byte "\n") (drop 1 text) else 0)

-- how many bytes end a row: a newline, and then one byte 0
abbrev pub end_len : List ℕ → ℕ
end_len text = newline_len text + one_if 0 (drop (newline_len text) text)

-- how long the first row is
abbrev pub row_len : List ℕ → ℕ
row_len text = position_or_len ends_row text

-- what comes after the first row and its end
abbrev pub after_row : List ℕ → List ℕ
after_row text = drop (end_len (drop (row_len text) text)) (drop (row_len text) text)

-- the first rows of a file, `most` at most
unfoldable pub first_rows : (most : ℕ) → List ℕ → List (List ℕ)
first_rows zero file = []
first_rows (suc most) [] = []
first_rows (suc most) (b ∷ rest) = take (row_len (b ∷ rest)) (b ∷ rest) ∷ first_rows most (after_row (b ∷ rest))

-- the rows of a file: no more than it has bytes
abbrev pub rows : List ℕ → List (List ℕ)
rows file = first_rows (length file) file

-- a text without the blanks that it begins with
abbrev pub unindented : List ℕ → List ℕ
unindented text = drop (prefix_len is_white text) text

-- A line of one row, or of several that go on: the number of its first row, and its text. One that is too long is left out.
pub record Whole : Type 0 where
  pub number : ℕ
  pub text : List ℕ
  pub long : Bool

-- What was read: whether a line goes on, the number of its first row, its text so far, whether it is too long, and the
-- lines before it.
pub record Reading : Type 0 where
  pub held : Bool
  pub first : ℕ
  pub text : List ℕ
  pub long : Bool
  pub lines : List Whole

-- nothing is read yet
abbrev pub start : Reading
start = record { held = false; first = 0; text = []; long = false; lines = [] }

-- whether a text ends in a backslash: then its line goes on
abbrev pub goes_on : List ℕ → Bool
goes_on text = ends_with nat_eq text (codes "\\")

-- the line ends here; a line without text is none
abbrev pub ended : Reading → Reading
ended r =
    record {
      held = false;
      first = r.first;
      text = [];
      long = false;
      lines = if (if r.long then false else is_none r.text) then r.lines else r.lines ++ (record { number = r.first; text = r.text; long = r.long } ∷ []);
    }

-- the line so far, of which the last row is `row`, goes on or ends. What is held of a line that is too long doesn't matter.
abbrev pub judged : Reading → (row : List ℕ) → Reading
judged r row =
    if goes_on (if r.long then row else r.text) then record r { held = true; text = take (length r.text - 1) r.text } else ended r

-- a row belongs to the line so far, or begins one
abbrev pub joined : Reading → (number : ℕ) → (row : List ℕ) → Reading
joined r number row =
    judged (record r {
      first = if r.held then r.first else number;
      text = r.text ++ row;
      long = if r.long then true else nat_le line_size (length r.text + length row);
    }) row

-- a row is read; comments are left out, also within a line that goes on
abbrev pub step : Reading → (number : ℕ) → (row : List ℕ) → Reading
step r number row = if begins_with (byte "#") (unindented row) then r else joined r number (unindented row)

-- rows are read, of which the first has this number
unfoldable pub steps : Reading → ℕ → List (List ℕ) → Reading
steps r number [] = r
steps r number (row ∷ more) = steps (step r number row) (number + 1) more

-- what the rows of a file say
abbrev pub reading : List ℕ → Reading
reading file = steps start 1 (rows file)

-- the number of the first row that is too long, the first of these having the number given
unfoldable pub long_row : ℕ → List (List ℕ) → Option ℕ
long_row number [] = None
long_row number (row ∷ more) = if nat_le line_size (length row) then Some number else long_row (number + 1) more
