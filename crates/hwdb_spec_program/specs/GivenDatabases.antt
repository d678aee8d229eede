-- The databases that words name to `verify`, `dump` and `diff`: `-` is standard input. That is from POSIX, Utility Syntax Guidelines, 13;
-- how errors call it, and that it is read once, is our choice.
use Rattle.std.specs.Prelude.{◌&&◌, ◌||◌, Bool, List, None, Option, Some, codes, false, if◌then◌else◌, true, ℕ}
use Rattle.std.specs.Str.{bytes_eq}
use Rattle.hwdb_spec_commands.specs.Given.{any_dash, is_dash}
use Rattle.hwdb_spec.specs.Store.{Contents, database_file}

-- the files as they are, but that a file with the name that errors give standard input has these bytes
unfoldable pub with_input : (bytes : List ℕ) → Contents → Contents
with_input bytes contents path = if bytes_eq path (codes "standard input") then Some (database_file bytes) else contents path

-- the path that words give, if they give one, is `-`
abbrev pub names_input : (given : Option (List ℕ)) → Bool
names_input None = false
names_input (Some path) = is_dash path

-- more than one of the sides and the files of devices of `diff` would be standard input: both sides, or one and a file
abbrev pub names_twice : (given : List (List ℕ)) (old_path new_path : List ℕ) → Bool
names_twice given old_path new_path = (is_dash old_path && is_dash new_path) || ((is_dash old_path || is_dash new_path) && any_dash given)

-- the words of that
abbrev pub twice_text : List ℕ
twice_text = codes "only one of OLD, NEW and --devices FILE may be -: standard input is read once"
