-- What the laws say of patterns, tokens and live paths.
use Rattle.std.specs.Prelude.{List, [], length, ℕ, ◌++◌, ◌∷◌, ◌≡◌, IsTrue, ◌↔◌, not, take_while, Some}
use Rattle.hwdb_spec.specs.Patterns.{Token, token_at, token_size, tokens, Matches, matches, Bracket, bracket_at}
use Rattle.hwdb_spec.specs.Tree.{closed_part, is_open, IsLive, is_live}
use Rattle.hwdb_pattern.specs.Views.{open_part}

-- The text is a concatenation of as many pieces as there are tokens, in order. Each token begins what is left of the
-- text, and its piece has its size.
abbrev pub AreCutFrom : List Token → List ℕ → Type 0
AreCutFrom [] text = text ≡ []
AreCutFrom (token ∷ more) text =
    (piece : List ℕ) × (rest : List ℕ) × (text ≡ piece ++ rest) × (token_at text ≡ token)
    × (length piece ≡ token_size token) × AreCutFrom more rest

-- the tokens of a pattern are cut from the whole of it
abbrev pub TokensAreThePattern : Type 0
TokensAreThePattern = (pattern : List ℕ) → AreCutFrom (tokens pattern) pattern

-- the test is true exactly if the tokens match
abbrev pub MatchesIsTested : Type 0
MatchesIsTested = (ts : List Token) (device : List ℕ) → IsTrue (matches ts device) ↔ Matches ts device

-- The closed part, cut again as a pattern, has exactly the path's tokens before the first open `[`.
abbrev pub ClosedPartIsCutAlike : Type 0
ClosedPartIsCutAlike = (path : List ℕ) → tokens (closed_part path) ≡ take_while (λ t. not (is_open t)) (tokens path)

-- The closed part and the rest are the path.
abbrev pub ClosedPartAndRest : Type 0
ClosedPartAndRest = (path : List ℕ) → closed_part path ++ open_part path ≡ path

-- Dead stays dead: if a longer path is live, each path that it begins with is live.
abbrev pub DeadStaysDead : Type 0
DeadStaysDead = (path more device : List ℕ) → IsLive (path ++ more) device → IsLive path device

-- Nothing matches below a dead path: each path that a matching pattern begins with is live.
abbrev pub DeadMatchesNothing : Type 0
DeadMatchesNothing = (path more device : List ℕ) → Matches (tokens (path ++ more)) device → IsLive path device

-- the test is true exactly if the path is live
abbrev pub LiveIsTested : Type 0
LiveIsTested = (path device : List ℕ) → IsTrue (is_live path device) ↔ IsLive path device

-- A bracket that is closed in a text is the same bracket in every longer text that begins with it.
abbrev pub StaysClosed : Type 0
StaysClosed = (text more : List ℕ) (found : Bracket) → bracket_at text ≡ Some found → bracket_at (text ++ more) ≡ Some found
