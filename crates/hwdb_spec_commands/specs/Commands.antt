-- Commands that are told, to be run by a shell: the one that makes a database anew, and the one that removes it. How a text is a word of
-- a shell is from POSIX (Shell Command Language, 2.2.2); the rest is our choice.
use Rattle.std.specs.Prelude.{◌++◌, ◌∷◌, ◌==◌, Bool, List, [], codes, false, flat_map, if◌then◌else◌, true, ℕ}
use Rattle.std.specs.List.{list_all}
use Rattle.hwdb_spec_commands.specs.Asked.{database_path}
use Rattle.hwdb_spec.specs.Lines.{begins_with, byte, has, is_none}
use Rattle.hwdb_spec.specs.Patterns.{in_span}

-- whether a byte stands for itself in a word of a shell, wherever it is: a digit, a letter, or one of a few others
abbrev pub is_bare_byte : ℕ → Bool
is_bare_byte b =
    if in_span b (48, 57) then true
    else (if in_span b (65, 90) then true else (if in_span b (97, 122) then true else has b (codes "_@%+=:,./-")))

-- a byte between single quotes: a single quote can't be there, so that it ends them, comes after a `\`, and begins them again
abbrev pub quoted_byte : ℕ → List ℕ
quoted_byte b = if b == byte "'" then codes "'\\''" else b ∷ []

-- a text between single quotes
abbrev pub quoted : List ℕ → List ℕ
quoted text = byte "'" ∷ (flat_map quoted_byte text ++ byte "'" ∷ [])

-- a text as a word of a shell: as it is if each byte of it stands for itself
abbrev pub shell_word : List ℕ → List ℕ
shell_word text = if is_none text then quoted text else (if list_all is_bare_byte text then text else quoted text)

-- a path that no command takes for an option
abbrev pub no_option : (path : List ℕ) → List ℕ
no_option path = if begins_with (byte "-") path then codes "./" ++ path else path

-- a root as an option of the command; nothing if none was given
abbrev pub root_words : (root : List ℕ) → List ℕ
root_words [] = []
root_words (b ∷ more) = codes " --root=" ++ shell_word (b ∷ more)

-- the command that makes the database of a folder anew
abbrev pub update_words : (usr : Bool) (root : List ℕ) → List ℕ
update_words usr root = codes "hwdb update" ++ ((if usr then codes " --usr" else []) ++ root_words root)

-- the command that removes the database of /etc
abbrev pub removing_words : (root : List ℕ) → List ℕ
removing_words root = codes "rm " ++ shell_word (no_option (database_path false root))
