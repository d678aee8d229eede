-- Whether two patterns are seen to match no device both, or one is seen to match all that the other does. Both answers may be no though they
-- could be yes. Our choice.
use Rattle.std.specs.Prelude.{◌&&◌, ◌==◌, ◌∷◌, Bool, List, [], false, if◌then◌else◌, not, true, ℕ}
use Rattle.hwdb_spec.specs.Folders.{same}
use Rattle.hwdb_spec.specs.Forms.{is_star}
use Rattle.hwdb_spec.specs.Lines.{byte}
use Rattle.hwdb_spec.specs.Patterns.{Token, admits_byte, bracket, literal, one, star, tokens}
use Rattle.hwdb_spec_commands.specs.SampleTexts.{is_one}

-- whether a byte is a token for itself, wherever it stands
abbrev pub is_plain : ℕ → Bool
is_plain b = if b == byte "*" then false else (if b == byte "?" then false else not (b == byte "["))

-- two patterns differ before the first wildcard of both
unfoldable pub apart : (one other : List ℕ) → Bool
apart [] q = false
apart (a ∷ p) [] = false
apart (a ∷ p) (b ∷ q) = if is_plain a && is_plain b then (if a == b then apart p q else true) else false

-- a token that is no star takes each byte that another one takes
abbrev pub takes_all : (over under : Token) → Bool
takes_all over star = false
takes_all over one = is_one over
takes_all over (bracket found) = is_one over
takes_all over (literal own) = admits_byte over own

-- whether some ending of the tokens, the whole and the empty one among them, passes
unfoldable pub some_end : (List Token → Bool) → List Token → Bool
some_end test [] = test []
some_end test (t ∷ more) = if test (t ∷ more) then true else some_end test more

-- whether a token takes all that the first of some tokens does, and those after that pass
abbrev pub first_then : Token → (List Token → Bool) → List Token → Bool
first_then over test [] = false
first_then over test (t ∷ more) = test more && takes_all over t

-- Tokens match each text that others match: as `matches` has it, with tokens in the place of bytes.
unfoldable pub within : (overs unders : List Token) → Bool
within [] [] = true
within [] (t ∷ more) = false
within (over ∷ overs) unders = if is_star over then some_end (within overs) unders else first_then over (within overs) unders

-- a pattern matches each device that another one matches
abbrev pub covers : (over under : List ℕ) → Bool
covers over under = if same over under then true else within (tokens over) (tokens under)
