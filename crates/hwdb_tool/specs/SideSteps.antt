-- What the steps of a side of `diff` hold.
use Rattle.std.specs.Prelude.{◌≡◌, ◌⊎◌, List, false, ℕ}
use Rattle.hwdb_spec_commands.specs.Given.{is_dash}

-- standard input is at most one of two sides
abbrev pub IsOneDash : (old_path new_path : List ℕ) → Type 0
IsOneDash old_path new_path = (is_dash old_path ≡ false) ⊎ (is_dash new_path ≡ false)
