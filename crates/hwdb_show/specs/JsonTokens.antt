-- The tokens of JSON that mean members. Only private clauses cite them.
use Rattle.std.specs.Prelude.{List, ℕ, ◌∷◌, flat_map}
use Rattle.json.specs.Json.{Json}
use Rattle.json.specs.Token.{Token}
use Rattle.json.specs.Tree.{json_tokens}

-- a name, and the tokens of its value
abbrev pub tokens_of_member : List ℕ × Json → List Token
tokens_of_member m = Token.key m.0 ∷ json_tokens m.1

-- those of members, one after another
abbrev pub tokens_of_members : List (List ℕ × Json) → List Token
tokens_of_members ms = flat_map tokens_of_member ms
