-- What a value is compared with, after `rule_line_add_token` and `token_match_string` of udev-rules.c (systemd 257).
use Rattle.std.specs.Prelude.{List, ◌∷◌, [], Bool, true, false, if◌then◌else◌, ℕ, ◌==◌, nat_le, nat_eq, ◌+◌, codes, map, not, ◌++◌, Option, Some, None}
use Rattle.std.specs.List.{list_any, starts_with}
use Rattle.std.specs.Str.{bytes_eq}
use Rattle.hwdb_spec.specs.Lines.{byte, is_none, has}
use Rattle.hwdb_spec.specs.Patterns.{matches, tokens}

-- a letter of ASCII in lower case, any other byte as it is
abbrev pub lower : ℕ → ℕ
lower b = if nat_le (byte "A") b then (if nat_le b (byte "Z") then b + 32 else b) else b

-- a text in lower case, if capitals don't count
abbrev pub folded : (folds : Bool) → List ℕ → List ℕ
folded folds text = if folds then map lower text else text

-- *, ? or [ (`string_is_glob`)
abbrev pub is_wild : ℕ → Bool
is_wild b = if b == byte "*" then true else (if b == byte "?" then true else b == byte "[")

abbrev pub is_glob : List ℕ → Bool
is_glob value = list_any is_wild value

abbrev pub is_bar : ℕ → Bool
is_bar b = b == byte "|"

-- whether an empty alternative ends at a byte, which comes after a bar, or begins the value
abbrev pub ends_empty : (bar : Bool) → ℕ → Bool
ends_empty bar b = if is_bar b then bar else false

-- Whether one of the alternatives is empty: two bars side by side, or one at an end. `bar` says that the text comes after a bar, or is the
-- whole value.
abbrev pub has_empty : (bar : Bool) → List ℕ → Bool
has_empty bar [] = bar
has_empty bar (b ∷ rest) = if ends_empty bar b then true else has_empty (is_bar b) rest

-- whether a named class, a collating symbol or an equivalence class may begin here
abbrev pub begins_class : List ℕ → Bool
begins_class text =
    if starts_with nat_eq text (codes "[:") then true else (if starts_with nat_eq text (codes "[.") then true else starts_with nat_eq text (codes "[="))

abbrev pub has_class : List ℕ → Bool
has_class [] = false
has_class (b ∷ rest) = if begins_class (b ∷ rest) then true else has_class rest

-- Whether fnmatch reads a value as hwdb(7) does, so that it is followed here. A backslash is an escape for fnmatch alone. Named classes
-- aren't followed, nor are brackets if capitals don't count.
abbrev pub is_followed : (folds : Bool) → List ℕ → Bool
is_followed folds value = not (if has (byte "\\") value then true else (if has_class value then true else (if folds then has (byte "[") value else false)))

-- whether a text is as an alternative has it: byte by byte, or as fnmatch has it; an empty one has none
abbrev pub fits_one : (glob : Bool) → (text alternative : List ℕ) → Bool
fits_one glob text alternative =
    if is_none alternative then false else (if glob then matches (tokens alternative) text else bytes_eq alternative text)

-- Whether a text is as one of the alternatives has it, which have bars between them. `front` is what was read of the first one.
abbrev pub fits_any : (glob : Bool) → (text front value : List ℕ) → Bool
fits_any glob text front [] = fits_one glob text front
fits_any glob text front (b ∷ rest) =
    if is_bar b then (if fits_one glob text front then true else fits_any glob text [] rest) else fits_any glob text (front ++ (b ∷ [])) rest

-- whether an empty text is as the value has it
abbrev pub fits_empty : (value text : List ℕ) → Bool
fits_empty value text = if is_none text then has_empty true value else false

-- whether a text is as a value has it, whatever the operator is; None if the value isn't followed
abbrev pub told : (folds : Bool) → (value text : List ℕ) → Option Bool
told folds value text =
    if fits_empty value text then Some true
    else (if (if is_glob value then not (is_followed folds value) else false) then None
    else Some (fits_any (is_glob value) (folded folds text) [] (folded folds value)))
