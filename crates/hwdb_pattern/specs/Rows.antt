-- Worked rows of hwdb(7) and POSIX fnmatch (XCU 2.13): what the definitions give when they are computed.
use Rattle.std.specs.Prelude.{List, false, ℕ, true, [], codes, map, ◌∷◌, ◌≡◌, None, Some, Bool}
use Rattle.std.specs.Option.{option_map}
use Rattle.hwdb_spec.specs.Patterns.{Token, bracket, literal, one, star, tokens, bracket_at, matches}
use Rattle.hwdb_pattern.specs.Internal.Parts.{bracket_size}
use Rattle.hwdb_spec.specs.Tree.{closed_part, is_live}

-- a bracket of this size and these bytes, not inverted
abbrev pub upright : ℕ → List (ℕ × ℕ) → Token
upright size spans = bracket (record { size = size; inverted = false; spans = spans })

-- and one that is inverted
abbrev pub inverted : ℕ → List (ℕ × ℕ) → Token
inverted size spans = bracket (record { size = size; inverted = true; spans = spans })

abbrev pub TokenRows : Type 0
TokenRows =
    map tokens (codes "a*[b?" ∷ codes "[]-a]x" ∷ codes "[!c-a]" ∷ codes "\\*" ∷ codes "[[:digit:]" ∷ codes "[[:digit:]-z]" ∷ [])
    ≡ (literal 97 ∷ star ∷ literal 91 ∷ literal 98 ∷ one ∷ [])
    ∷ (upright 5 ((93, 97) ∷ []) ∷ literal 120 ∷ [])
    ∷ (inverted 6 ((99, 97) ∷ []) ∷ [])
    ∷ (literal 92 ∷ star ∷ [])
    ∷ (literal 91 ∷ upright 9 ((58, 58) ∷ (100, 100) ∷ (105, 105) ∷ (103, 103) ∷ (105, 105) ∷ (116, 116) ∷ (58, 58) ∷ []) ∷ [])
    ∷ (upright 13 ((48, 57) ∷ (45, 45) ∷ (122, 122) ∷ []) ∷ [])
    ∷ []

-- the lengths of the brackets that begin these texts
abbrev pub BracketRows : Type 0
BracketRows =
    map (λ text. option_map bracket_size (bracket_at text))
    (codes "[a-c]x" ∷ codes "[!a]x" ∷ codes "[]-a]x" ∷ codes "[!]" ∷ codes "[]" ∷ codes "[a" ∷ codes "[]]"
    ∷ codes "[[:digit:]" ∷ codes "[a-[:digit:]]" ∷ codes "[[:upper:][:digit:]_]" ∷ codes "[[:digit:]]x" ∷ codes "[c-a]x"
    ∷ codes "[]:alpha:]" ∷ [])
    ≡ Some 5 ∷ Some 4 ∷ Some 5 ∷ None ∷ None ∷ None ∷ Some 3 ∷ None ∷ Some 12 ∷ Some 21 ∷ Some 11 ∷ Some 5 ∷ Some 10 ∷ []

-- which of these patterns match the device
abbrev pub matching : List ℕ → List (List ℕ) → List Bool
matching device patterns = map (λ pattern. matches (tokens pattern) device) patterns

abbrev pub MatchRows : Type 0
MatchRows =
    map (λ device. matching device (codes "a[b*" ∷ codes "a[bc]x" ∷ codes "a[b" ∷ []))
    (codes "a[bzz" ∷ codes "abzz" ∷ codes "abx" ∷ codes "a[b" ∷ [])
    ≡ (true ∷ false ∷ false ∷ [])
    ∷ (false ∷ false ∷ false ∷ [])
    ∷ (false ∷ true ∷ false ∷ [])
    ∷ (true ∷ false ∷ true ∷ [])
    ∷ []

abbrev pub StarRows : Type 0
StarRows =
    map (λ device. matching device (codes "*" ∷ codes "a*b" ∷ codes "?" ∷ codes "**" ∷ codes "\\*" ∷ []))
    (codes "" ∷ codes "a/x/b" ∷ codes "a" ∷ codes "*" ∷ codes "\\q" ∷ [])
    ≡ (true ∷ false ∷ false ∷ true ∷ false ∷ [])
    ∷ (true ∷ true ∷ false ∷ true ∷ false ∷ [])
    ∷ (true ∷ false ∷ true ∷ true ∷ false ∷ [])
    ∷ (true ∷ false ∷ true ∷ true ∷ false ∷ [])
    ∷ (true ∷ false ∷ false ∷ true ∷ true ∷ [])
    ∷ []

-- the closed parts of these paths
abbrev pub ClosedRows : Type 0
ClosedRows =
    map closed_part (codes "a[b" ∷ codes "a[bc]x" ∷ codes "[ab[]" ∷ codes "x[!a]y[z" ∷ codes "[[:digit:]" ∷ [])
    ≡ codes "a" ∷ codes "a[bc]x" ∷ codes "[ab[]" ∷ codes "x[!a]y" ∷ [] ∷ []

-- which of these paths are live for the devices
abbrev pub LiveRows : Type 0
LiveRows =
    map (λ device. map (λ path. is_live path device) (codes "a[b" ∷ codes "a[bc]x" ∷ codes "[ab[]" ∷ []))
    (codes "abx" ∷ codes "abzz" ∷ codes "a" ∷ codes "x" ∷ [])
    ≡ (true ∷ true ∷ true ∷ [])
    ∷ (true ∷ false ∷ true ∷ [])
    ∷ (true ∷ false ∷ true ∷ [])
    ∷ (false ∷ false ∷ false ∷ [])
    ∷ []
