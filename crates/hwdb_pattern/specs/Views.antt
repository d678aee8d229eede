-- What contracts see of a `Reach`: which prefixes of a device the closed part of a path matches. Our choice.
use Rattle.std.specs.Prelude.{Contains, List, length, take, ℕ, ◌≤◌, Bool, false, nat_lt, slice_index, if◌then◌else◌, ◌≡◌, [], suc, zero, ◌-◌, ◌∷◌, ◌++◌, ◌<◌, ◌≢◌}
use Rattle.hwdb_spec.specs.Patterns.{Matches, Token, admits_byte, token_at, token_size, tokens}
use Rattle.hwdb_spec.specs.Tree.{is_open, closed_part}

-- the lengths are exactly those of the device's prefixes that the tokens match
pub record Lengths (ts : List Token) (device lengths : List ℕ) : Type 0 where
  pub sound : (n : ℕ) → Contains lengths n → (n ≤ length device) × Matches ts (take n device)
  pub complete : (n : ℕ) → n ≤ length device → Matches ts (take n device) → Contains lengths n

-- whether the token takes the device's byte after `n` bytes
abbrev pub takes : Token → List ℕ → ℕ → Bool
takes t device n = if nat_lt n (length device) then admits_byte t (slice_index device n) else false

-- the token takes the device's next byte after none of the prefixes
abbrev pub NoneTakes : Token → List ℕ → List ℕ → Type 0
NoneTakes t device lengths = (n : ℕ) → Contains lengths n → takes t device n ≡ false

-- the text from the first open `[` on
unfoldable pub open_from : (skip : ℕ) → List ℕ → List ℕ
open_from skip [] = []
open_from (suc skip) (first ∷ rest) = open_from skip rest
open_from zero (first ∷ rest) =
    if is_open (token_at (first ∷ rest)) then first ∷ rest
    else open_from (token_size (token_at (first ∷ rest)) - 1) rest

-- the rest of a path, after its closed part
abbrev pub open_part : List ℕ → List ℕ
open_part path = open_from 0 path

-- what a reach shows: the device, the lengths of the matched prefixes, and the path's bytes from the first open `[` on
pub record Reached : Type 0 where
  pub device : List ℕ
  pub lengths : List ℕ
  pub kept : List ℕ

-- A reach is the state of a path. Its lengths are exactly those of the device's prefixes that the closed part matches.
-- Its kept bytes are the rest of the path.
pub record StandsFor (reach : Reached) (path : List ℕ) : Type 0 where
  pub met : Lengths (tokens (closed_part path)) reach.device reach.lengths
  pub rest : path ≡ closed_part path ++ reach.kept

-- A text leads nowhere at once. No `[` is open in it. Its first token isn't a star, and takes the device's next byte
-- after none of the prefixes that are matched.
pub record IsLost (reach : Reached) (text : List ℕ) : Type 0 where
  pub some : 0 < length text
  pub closed : open_part text ≡ []
  pub no_star : slice_index text 0 ≢ 42
  pub none_takes : NoneTakes (token_at text) reach.device reach.lengths
