-- Our own words: a line of a file, by its number.
use Rattle.std.specs.Prelude.{ℕ, List}
use Rattle.hwdb_spec.specs.Lines.{Line}

abbrev pub line_of : ℕ → List ℕ → Line
line_of number text = record { number = number; text = text }
