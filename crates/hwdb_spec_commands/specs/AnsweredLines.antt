-- Which lines of standard input are answered, each naming a device, and what ends that. Our choice.
use Rattle.std.specs.Prelude.{◌-◌, ◌==◌, ◌^◌, ◌∷◌, ◌≡◌, ◌⊎◌, Bool, List, None, Option, Some, [], if◌then◌else◌, length, nat_lt, take, ℕ}
use Rattle.hwdb_spec.specs.Outputs.{Wrote, WrotePrefix}
use Rattle.hwdb_spec.specs.Texts.{max_file}
use Rattle.hwdb_spec.specs.declared.errors.ToolError.{ToolError}
use Rattle.hwdb_spec.specs.declared.errors.ToolError.TheVariants.{BadDatabase, TooLong, TooManyLines, Write}

-- how many lines are answered at most
abbrev pub most_devices : ℕ
most_devices = 2 ^ 64 - 1

-- whether a line has more bytes than a file may have
abbrev pub is_long : (line : List ℕ) → Bool
is_long line = nat_lt max_file (length line)

-- the lines before the first that is too long
unfoldable pub before_long : List (List ℕ) → List (List ℕ)
before_long [] = []
before_long (line ∷ more) = if is_long line then [] else line ∷ before_long more

-- the lines that are answered: those before one that is too long, and of these the first
abbrev pub answered_lines : List (List ℕ) → List (List ℕ)
answered_lines lines = take most_devices (before_long lines)

-- What comes after so many of all lines: too many lines if as many as may be were answered. If nothing comes after them, nothing,
-- else one that is too long.
abbrev pub end_after : (answered all : ℕ) → Option ToolError
end_after answered all = if answered == most_devices then Some TooManyLines else (if answered == all then None else Some TooLong)

-- the error that ends answering these lines, if one does
abbrev pub line_error : (lines : List (List ℕ)) → Option ToolError
line_error lines = end_after (length (answered_lines lines)) (length lines)

-- if the error is one of a line, it is that one
abbrev pub IsLineError : ToolError → (ends : Option ToolError) → Type 0
IsLineError TooLong ends = ends ≡ Some TooLong
IsLineError TooManyLines ends = ends ≡ Some TooManyLines
IsLineError error ends = Unit {0}

-- What a sink took before an error. If that is one of a line, it is the text of all lines that are answered. If the sink failed,
-- it is a prefix of that, else the text of some of them.
abbrev pub IsPrintedBefore : ToolError → (Is : (lines : List (List ℕ)) (text : List ℕ) → Type 0) → (lines : List (List ℕ)) → (before now : Option (List ℕ)) → Type 0
IsPrintedBefore (BadDatabase fault) Is lines before now = now ≡ before
IsPrintedBefore TooLong Is lines before now = Wrote (Is (answered_lines lines)) before now
IsPrintedBefore TooManyLines Is lines before now = Wrote (Is (answered_lines lines)) before now
IsPrintedBefore Write Is lines before now = WrotePrefix (Is (answered_lines lines)) before now
IsPrintedBefore error Is lines before now = (now ≡ before) ⊎ ((n : ℕ) × Wrote (Is (take n (answered_lines lines))) before now)
